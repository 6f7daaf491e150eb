use Rattle.std.proofs.Common.{length}
use Rattle.vsw_walk.proofs.walking.+go_out.Given as goal

abbrev pub decreases-go_out : goal.decreases-go_out
decreases-go_out l = length l.layers.now
