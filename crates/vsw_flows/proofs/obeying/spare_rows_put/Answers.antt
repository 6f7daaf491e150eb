use Rattle.std.proofs.Common.{map}
use Rattle.vsw_policy.specs.declared.command.Command.TheVariants.{PutRules}
use Rattle.vsw_policy.specs.Layer.{seen}
use Rattle.vsw_flows.proofs.Obeyed.{tried_more}
use Rattle.vsw_flows.proofs.obeying.spare_rows_put.Goals as goal

pub loop-row-preserved : goal.loop-row-preserved
loop-row-preserved c =
    let p = c.args.put.now in
    tried_more (map seen c.args.layers.now) c.args.controller (PutRules p.layer p.group p.rules.now) c.loop-row.row c.args.writer.now c.loop-row.writer c.spare_row_put.new.writer c.args.leaning.now c.loop-row.leaning c.spare_row_put.new.leaning
    c.loop-row.invariant c.spare_row_put.ensures.lessens c.spare_row_put.ensures.left
