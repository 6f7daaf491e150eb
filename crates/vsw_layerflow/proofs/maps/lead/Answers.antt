use Rattle.std.proofs.Common.{◌∙◌, ap, sym, refl}
use Rattle.std.specs.Map.{lookup}
use Rattle.vsw_layerflow.specs.Pairs.{probe, same_probe}
use Rattle.std.proofs.lemmas.Map.{lookup-set_value}
use Rattle.vsw_layerflow.proofs.Lists.{probe_laws}
use Rattle.vsw_layerflow.proofs.Replaced.{one_class}
use Rattle.vsw_layerflow.proofs.maps.lead.Goals as goal

pub returns-in-Some-clause-place : goal.returns-in-Some-clause-place
returns-in-Some-clause-place c q =
    let k = probe c.args.dir c.args.key.now in
    let there = sym c.set_place.ensures.before ∙ c.in-Some.is in
    ap (lookup (same_probe q)) (c.set_place.ensures.some c.in-Some.was there)
    ∙ lookup-set_value probe_laws (same_probe k) (one_class k) q c.args.number c.args.places.now.entries (rw there refl)
