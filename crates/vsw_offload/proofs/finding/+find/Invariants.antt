use Rattle.std.proofs.Common.{length}
use Rattle.vsw_offload.proofs.finding.+find.Given as goal

abbrev pub decreases-find : goal.decreases-find
decreases-find l = length l.rows.now
