use Rattle.std.proofs.Common.{◌∙◌, ap, sym, refl, Bool}
use Rattle.std.specs.Map.{lookup}
use Rattle.vsw_layerflow.specs.declared.pair.Probe.{Probe}
use Rattle.vsw_layerflow.proofs.Lists.{one_test}
use Rattle.vsw_layerflow.proofs.maps.take_place.Goals as goal

pub returns-clause-place : goal.returns-clause-place
returns-clause-place c q =
    let h = c.probes_agree.ensures in
    let t = ap (λ (t : Probe → Bool). lookup t c.swap_remove.new.self.entries) (sym (one_test _ h q)) in
    let s = ap (λ (t : Probe → Bool). lookup t c.args.places.now.entries) (one_test _ h q) in
    t ∙ c.swap_remove.ensures.updates.0 q ∙ rw (h c.args.probe q, s) refl
