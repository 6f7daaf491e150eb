use Rattle.std.proofs.Common.{map}
use Rattle.vsw_policy.specs.Layer.{seen}
use Rattle.vsw_flows.proofs.Obeyed.{tried_more}
use Rattle.vsw_flows.proofs.obeying.spare_rows.Goals as goal

pub loop-row-preserved : goal.loop-row-preserved
loop-row-preserved c =
    tried_more (map seen c.args.layers.now) c.args.controller c.args.command.now c.loop-row.row c.args.writer.now c.loop-row.writer c.spare_row.new.writer c.args.leaning.now c.loop-row.leaning c.spare_row.new.leaning
    c.loop-row.invariant c.spare_row.ensures.lessens c.spare_row.ensures.left
