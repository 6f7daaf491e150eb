use Rattle.std.proofs.Common.{rules, tests, ◌∙◌}
use Rattle.std.proofs.lemmas.Iterator.{YieldsList-from_slice}
use Rattle.std.proofs.lemmas.Iterator.Search.{position_from_yields_List}
use Rattle.vsw_policy.specs.Layer.{seen}
use Rattle.vsw_policy.specs.Layers.{is_before}
use Rattle.vsw_policy.specs.Obey.{empty_layer}
use Rattle.vsw_policy.proofs.Firsts.{position-map}
use Rattle.vsw_policy.proofs.places.place_before.Goals as goal

pub returns : goal.returns
returns c =
    let p = is_before c.args.controllers.now (empty_layer c.args.controller c.args.new.now) in
    position_from_yields_List (λ l. is_before c.args.controllers.now (empty_layer c.args.controller c.args.new.now) (seen l)) _ _ c.position.result c.position.ensures.ran (YieldsList-from_slice c.args.layers.now cc) (λ x b q k. search (rules, tests))
    ∙ position-map seen p c.args.layers.now
