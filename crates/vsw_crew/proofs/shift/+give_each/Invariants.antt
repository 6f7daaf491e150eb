use Rattle.std.proofs.Common.{length}
use Rattle.vsw_crew.proofs.shift.+give_each.Given as goal

abbrev pub decreases-give_each : goal.decreases-give_each
decreases-give_each g l = length l.rows.now
