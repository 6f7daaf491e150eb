use Rattle.std.proofs.Common.{length}
use Rattle.vsw_dock.proofs.dock.+hand_on.Given as goal

abbrev pub decreases-hand_on : goal.decreases-hand_on
decreases-hand_on g l = length l.docks.now
