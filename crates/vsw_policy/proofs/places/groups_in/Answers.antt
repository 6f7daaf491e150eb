use Rattle.std.proofs.Common.{◌∙◌, ap, map, sym}
use Rattle.vsw_policy.specs.Layer.{seen}
use Rattle.vsw_policy.proofs.LayerFirsts.{find-none}
use Rattle.vsw_policy.specs.Layers.{is_layer}
use Rattle.vsw_policy.specs.Obey.{groups_of}
use Rattle.vsw_policy.proofs.Firsts.{found-seen}
use Rattle.vsw_policy.proofs.places.groups_in.Goals as goal

pub returns-in-Some : goal.returns-in-Some
returns-in-Some c =
    c.as_slice.ensures
    ∙ ap groups_of (sym (found-seen seen (is_layer c.args.controller c.args.number) c.args.layers.now c.in-Some.place c.index-layers-place.result (sym c.layer_place.ensures ∙ c.in-Some.is)))

pub returns-in-None : goal.returns-in-None
returns-in-None c = ap groups_of (sym (find-none (is_layer c.args.controller c.args.number) (map seen c.args.layers.now) (sym c.layer_place.ensures ∙ c.in-None.is)))
