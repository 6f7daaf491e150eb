use Rattle.std.proofs.Common.{◌≡◌, ◌∙◌, ap, arith, map, sym}
use Rattle.std.specs.List.{slice_get}
use Rattle.vsw_policy.specs.declared.command.Command.TheVariants.{PutRules}
use Rattle.vsw_policy.specs.Layer.{seen}
use Rattle.vsw_policy.specs.Layers.{is_layer}
use Rattle.vsw_rows.proofs.Leans.{layer_at}
use Rattle.vsw_spares.specs.Spared.{leaves, leaves_in}
use Rattle.vsw_flows.proofs.Obeyed.{named_leaves, unnamed}
use Rattle.vsw_flows.proofs.obeying.put_leaves_look.Goals as goal

pub put_rules_leaves-requires : goal.put_rules_leaves-requires
put_rules_leaves-requires c =
    let at = layer_at c.args.layers.now c.args.look.now.layer c.in-Some.layer.now c.in-Some.ensures.lookup.0 c.in-Some.ensures.lookup.1 in
    let same : c.args.put.now.place ≡ c.args.look.now.layer = grind (arith, c.if-look-put.true) in
    c.requires.differs (seen c.in-Some.layer.now) (ap (slice_get (map seen c.args.layers.now)) same ∙ at)

pub returns-then-look-put : goal.returns-then-look-put
returns-then-look-put c e =
    let at = layer_at c.args.layers.now c.args.look.now.layer c.in-Some.layer.now c.in-Some.ensures.lookup.0 c.in-Some.ensures.lookup.1 in
    let p = c.args.put.now in
    let l = seen c.in-Some.layer.now in
    ap (λ o. leaves_in c.args.controller (PutRules p.layer p.group p.rules.now) o c.args.look.now) at
    ∙ named_leaves (is_layer c.args.controller p.layer l) (leaves (PutRules p.layer p.group p.rules.now) l c.args.look.now) (c.put_rules_leaves.ensures e)

pub returns : goal.returns
returns c e =
    let at = layer_at c.args.layers.now c.args.look.now.layer c.in-Some.layer.now c.in-Some.ensures.lookup.0 c.in-Some.ensures.lookup.1 in
    let p = c.args.put.now in
    let l = seen c.in-Some.layer.now in
    ap (λ o. leaves_in c.args.controller (PutRules p.layer p.group p.rules.now) o c.args.look.now) at
    ∙ unnamed (is_layer c.args.controller p.layer l) (leaves (PutRules p.layer p.group p.rules.now) l c.args.look.now) (sym c.is_named.ensures ∙ c.if-is_named.false)
