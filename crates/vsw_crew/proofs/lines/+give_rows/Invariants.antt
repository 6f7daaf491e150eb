use Rattle.std.proofs.Common.{length}
use Rattle.vsw_crew.proofs.lines.+give_rows.Given as goal

abbrev pub decreases-give_rows : goal.decreases-give_rows
decreases-give_rows l = length l.rows.now
