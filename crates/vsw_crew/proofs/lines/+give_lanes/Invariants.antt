use Rattle.std.proofs.Common.{length}
use Rattle.vsw_crew.proofs.lines.+give_lanes.Given as goal

abbrev pub decreases-give_lanes : goal.decreases-give_lanes
decreases-give_lanes l = length l.row.now
