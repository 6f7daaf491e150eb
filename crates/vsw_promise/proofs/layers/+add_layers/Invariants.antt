use Rattle.std.proofs.Common.{length}
use Rattle.vsw_promise.proofs.layers.+add_layers.Given as goal

abbrev pub decreases-add_layers : goal.decreases-add_layers
decreases-add_layers l = length l.layers.now
