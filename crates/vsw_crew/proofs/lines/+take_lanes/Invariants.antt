use Rattle.std.proofs.Common.{length}
use Rattle.vsw_crew.proofs.lines.+take_lanes.Given as goal

abbrev pub decreases-take_lanes : goal.decreases-take_lanes
decreases-take_lanes l = length l.row.now
