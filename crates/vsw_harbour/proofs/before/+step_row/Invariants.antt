use Rattle.std.proofs.Common.{length}
use Rattle.vsw_harbour.proofs.before.+step_row.Given as goal

abbrev pub decreases-step_row : goal.decreases-step_row
decreases-step_row g l = length l.rows.now
