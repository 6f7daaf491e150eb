use Rattle.std.proofs.Common.{length}
use Rattle.vsw_offload.proofs.answer.+rows_at.Given as goal

abbrev pub decreases-rows_at : goal.decreases-rows_at
decreases-rows_at l = length l.ports.now
