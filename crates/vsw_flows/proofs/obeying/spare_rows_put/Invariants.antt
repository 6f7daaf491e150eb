use Rattle.std.proofs.Common.{map}
use Rattle.vsw_policy.specs.declared.command.Command.TheVariants.{PutRules}
use Rattle.vsw_policy.specs.Layer.{seen}
use Rattle.vsw_flows.proofs.Obeyed.{Tried}
use Rattle.vsw_flows.proofs.obeying.spare_rows_put.Given as goal

abbrev pub invariant-loop-row : goal.invariant-loop-row
invariant-loop-row l = Tried (map seen l.layers) l.controller (PutRules l.put.layer l.put.group l.put.rules.now) l.row l.initial.writer l.writer l.initial.leaning l.leaning
