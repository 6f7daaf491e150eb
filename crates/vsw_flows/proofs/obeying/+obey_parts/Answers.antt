use Rattle.std.proofs.Common.{map}
use Rattle.vsw_policy.specs.Layer.{seen}
use Rattle.vsw_flows.proofs.Obeyed.{lessens_then, parts_more}
use Rattle.vsw_flows.proofs.obeying.+obey_parts.Goals as goal

pub returns-clause-lessens : goal.returns-clause-lessens
returns-clause-lessens t c =
    lessens_then c.args.writer.now c.obey_put.new.writer c.obey_parts.new.writer c.args.leaning.now c.obey_put.new.leaning c.obey_parts.new.leaning c.obey_put.ensures.lessens c.obey_parts.ensures.lessens

pub returns-clause-left : goal.returns-clause-left
returns-clause-left t c =
    parts_more (map seen c.args.layers.now) c.args.controller c.args.parts.now c.in-Some.part.now c.in-Some.rest.now c.args.writer.now c.obey_put.new.writer c.obey_parts.new.writer c.args.leaning.now c.obey_put.new.leaning c.obey_parts.new.leaning
    c.in-Some.ensures.cases.0 c.obey_put.ensures.lessens c.obey_put.ensures.left c.obey_parts.ensures.lessens c.obey_parts.ensures.left
