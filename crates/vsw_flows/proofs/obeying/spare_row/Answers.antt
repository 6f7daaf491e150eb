use Rattle.std.proofs.Common.{map}
use Rattle.vsw_policy.specs.Layer.{seen}
use Rattle.vsw_flows.proofs.Obeyed.{forgot}
use Rattle.vsw_flows.proofs.Passed.{row_passed}
use Rattle.vsw_flows.proofs.obeying.spare_row.Goals as goal

pub returns-then-passes_row-clause-left : goal.returns-then-passes_row-clause-left
returns-then-passes_row-clause-left c stand current =
    row_passed (map seen c.args.layers.now) c.args.controller c.args.command.now c.args.named.now c.args.writer.now c.args.leaning.now c.args.row c.requires.naming (c.passes_row.ensures c.if-passes_row.true) stand current

pub returns-clause-lessens : goal.returns-clause-lessens
returns-clause-lessens c =
    forgot c.args.row c.args.writer.now c.fall.new.writer c.args.leaning.now c.fall.new.leaning c.forget.new.self c.fall.ensures c.forget.ensures.others c.forget.ensures.spots
