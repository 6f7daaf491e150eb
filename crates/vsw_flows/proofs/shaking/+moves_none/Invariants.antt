use Rattle.std.proofs.Common.{length}
use Rattle.vsw_flows.proofs.shaking.+moves_none.Given as goal

abbrev pub decreases-moves_none : goal.decreases-moves_none
decreases-moves_none l = length l.changes.now
