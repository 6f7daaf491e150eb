use Rattle.std.proofs.Common.{◌∙◌, map, sym}
use Rattle.std.proofs.lemmas.List.{length-map}
use Rattle.vsw_policy.specs.Layer.{seen}
use Rattle.vsw_policy.specs.Layers.{is_before}
use Rattle.vsw_policy.specs.Obey.{empty_layer}
use Rattle.vsw_policy.proofs.Firsts.{place-some, place-none}
use Rattle.vsw_policy.proofs.places.place_for.Goals as goal

pub returns-in-Some-clause-place : goal.returns-in-Some-clause-place
returns-in-Some-clause-place c = place-some (is_before c.args.controllers.now (empty_layer c.args.controller c.args.new.now)) (map seen c.args.layers.now) c.in-Some.place (sym c.place_before.ensures ∙ c.in-Some.is)

pub returns-in-None-clause-place : goal.returns-in-None-clause-place
returns-in-None-clause-place c =
    sym (length-map c.args.layers.now seen) ∙ place-none (is_before c.args.controllers.now (empty_layer c.args.controller c.args.new.now)) (map seen c.args.layers.now) (sym c.place_before.ensures ∙ c.in-None.is)
