use Rattle.std.proofs.Common.{◌∙◌, sym, ap, map}
use Rattle.std.specs.List.{position}
use Rattle.vsw_policy.specs.Layer.{seen}
use Rattle.vsw_policy.specs.Layers.{is_layer}
use Rattle.vsw_policy.proofs.LayerFirsts.{removed-none}
use Rattle.vsw_policy.proofs.Firsts.{removed-seen}
use Rattle.vsw_policy.proofs.changes.remove_layer.Goals as goal

pub returns-in_default : goal.returns-in_default
returns-in_default c =
    let p = is_layer c.args.controller c.args.layer in
    sym (removed-none p (map seen c.args.layers.now.items) (ap (λ ls. position p (map seen ls)) (sym c.deref.ensures.value) ∙ sym c.layer_place.ensures ∙ c.in_default.is))

pub returns : goal.returns
returns c =
    let p = is_layer c.args.controller c.args.layer in
    ap (map seen) c.remove.ensures.items
    ∙ removed-seen seen p c.args.layers.now.items c.in-Some.place (ap (λ ls. position p (map seen ls)) (sym c.deref.ensures.value) ∙ sym c.layer_place.ensures ∙ c.in-Some.is)
