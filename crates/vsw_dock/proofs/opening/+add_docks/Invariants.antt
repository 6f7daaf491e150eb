use Rattle.std.proofs.Common.{length}
use Rattle.vsw_dock.proofs.opening.+add_docks.Given as goal

abbrev pub decreases-add_docks : goal.decreases-add_docks
decreases-add_docks g l = length l.numbers.now
