use Rattle.std.proofs.Common.{◌∙◌, ap, map, sym}
use Rattle.std.specs.List.{list_all}
use Rattle.vsw_spares.specs.Spared.{as_put, spares_one}
use Rattle.vsw_policy.specs.Layer.{seen}
use Rattle.vsw_flows.specs.Leant.{kept_at}
use Rattle.vsw_flows.proofs.Obeyed.{spared_alone, spared_many, spared_put}
use Rattle.vsw_flows.proofs.obeying.obey.Goals as goal

pub returns-then-is_alone-clause-spared : goal.returns-then-is_alone-clause-spared
returns-then-is_alone-clause-spared c stand place current =
    spared_alone (map seen c.args.layers.now) c.args.controller c.args.command.now (kept_at c.args.leaning.now.kept place) (c.is_alone.ensures c.if-is_alone.true).0 (c.is_alone.ensures c.if-is_alone.true).1 (c.spare_rows.ensures.left stand place current)

pub returns-in-PutRules-clause-spared : goal.returns-in-PutRules-clause-spared
returns-in-PutRules-clause-spared c stand place current =
    spared_put (map seen c.args.layers.now) c.args.controller c.args.command.now c.in-PutRules.layer c.in-PutRules.group c.in-PutRules.rules (kept_at c.args.leaning.now.kept place) c.in-PutRules.is (c.obey_put.ensures.left stand place current)

pub returns-in-PutMany-clause-spared : goal.returns-in-PutMany-clause-spared
returns-in-PutMany-clause-spared c stand place current =
    let ls = map seen c.args.layers.now in
    let qs = kept_at c.args.leaning.now.kept place in
    spared_many ls c.args.controller c.args.command.now c.in-PutMany.parts qs c.in-PutMany.is
    (ap (λ ps. list_all (λ k. spares_one ls c.args.controller k qs) (map as_put ps)) (sym c.as_slice.ensures) ∙ c.obey_parts.ensures.left stand place current)
