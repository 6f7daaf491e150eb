use Rattle.std.proofs.Common.{rules, tests, ◌∙◌}
use Rattle.std.proofs.lemmas.Iterator.{YieldsList-from_slice}
use Rattle.std.proofs.lemmas.Iterator.Search.{position_from_yields_List}
use Rattle.vsw_policy.specs.Layer.{seen}
use Rattle.vsw_policy.specs.Layers.{is_layer}
use Rattle.vsw_policy.proofs.Firsts.{position-map}
use Rattle.vsw_policy.proofs.places.layer_place.Goals as goal

pub returns : goal.returns
returns c =
    position_from_yields_List (λ l. is_layer c.args.controller c.args.number (seen l)) _ _ c.position.result c.position.ensures.ran (YieldsList-from_slice c.args.layers.now cc) (λ x b q k. search (rules, tests))
    ∙ position-map seen (is_layer c.args.controller c.args.number) c.args.layers.now
