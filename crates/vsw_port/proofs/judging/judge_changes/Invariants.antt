use Rattle.std.proofs.Common.{drop, map}
use Rattle.vsw_policy.specs.Layer.{seen}
use Rattle.vsw_port.proofs.Judged.{Judged}
use Rattle.vsw_port.proofs.judging.judge_changes.Given as goal

abbrev pub invariant-loop-change : goal.invariant-loop-change
invariant-loop-change l = Judged (map seen l.layers) l.left (drop l.change-index l.changes) l.changes
