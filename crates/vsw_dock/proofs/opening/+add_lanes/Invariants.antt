use Rattle.std.proofs.Common.{length}
use Rattle.vsw_dock.proofs.opening.+add_lanes.Given as goal

abbrev pub decreases-add_lanes : goal.decreases-add_lanes
decreases-add_lanes l = length l.left.now
