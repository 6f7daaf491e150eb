use Rattle.std.proofs.Common.{◌∙◌, ap, sym, refl, Bool}
use Rattle.std.specs.Map.{lookup}
use Rattle.vsw_layerflow.specs.declared.pair.Probe.{Probe}
use Rattle.vsw_layerflow.proofs.Lists.{one_test, when_ok}
use Rattle.vsw_layerflow.proofs.maps.put_place.Goals as goal

pub returns-clause-place : goal.returns-clause-place
returns-clause-place c q =
    let h = c.probes_agree.ensures in
    let t = ap (λ (t : Probe → Bool). lookup t c.insert.new.self.entries) (sym (one_test _ h q)) in
    let s = ap (λ (t : Probe → Bool). lookup t c.args.places.now.entries) (one_test _ h q) in
    let u = when_ok c.insert.result (c.insert.ensures.succeeds c.requires.room) c.insert.ensures.updates in
    t ∙ u.0 q ∙ rw (h c.args.probe q, s) refl
