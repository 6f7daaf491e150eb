use Rattle.std.proofs.Common.{length}
use Rattle.vsw_offload.proofs.making.+edits_at.Given as goal

abbrev pub decreases-edits_at : goal.decreases-edits_at
decreases-edits_at l = length l.edits.now
