use Rattle.std.proofs.Common.{map}
use Rattle.vsw_policy.specs.Layer.{seen}
use Rattle.vsw_flows.proofs.Obeyed.{Tried}
use Rattle.vsw_flows.proofs.obeying.spare_rows.Given as goal

abbrev pub invariant-loop-row : goal.invariant-loop-row
invariant-loop-row l = Tried (map seen l.layers) l.controller l.command l.row l.initial.writer l.writer l.initial.leaning l.leaning
