use Rattle.std.proofs.Common.{◌∙◌, ap, map}
use Rattle.vsw_policy.specs.Layer.{seen}
use Rattle.vsw_rows.proofs.Leans.{layer_at}
use Rattle.vsw_spares.specs.Spared.{leaves, leaves_in, names}
use Rattle.vsw_flows.specs.Gists.{is_named_at}
use Rattle.vsw_flows.proofs.Obeyed.{isnt, named_leaves, unnamed_leaves}
use Rattle.vsw_flows.proofs.obeying.leaves_look.Goals as goal

pub returns-then-is_unnamed : goal.returns-then-is_unnamed
returns-then-is_unnamed c e =
    unnamed_leaves (map seen c.args.layers.now) c.args.controller c.args.command.now c.args.named.now c.args.look.now c.requires.naming
    (isnt (is_named_at c.args.named.now c.args.look.now.layer) c.is_unnamed.result c.is_unnamed.ensures c.if-is_unnamed.true)

pub returns-in-Some : goal.returns-in-Some
returns-in-Some c e =
    let at = layer_at c.args.layers.now c.args.look.now.layer c.in-Some.layer.now c.in-Some.ensures.lookup.0 c.in-Some.ensures.lookup.1 in
    let l = seen c.in-Some.layer.now in
    ap (λ o. leaves_in c.args.controller c.args.command.now o c.args.look.now) at
    ∙ named_leaves (names c.args.controller c.args.command.now l) (leaves c.args.command.now l c.args.look.now) (c.leaves.ensures e)
