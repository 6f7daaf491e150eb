use Rattle.std.proofs.Common.{rules, ◌≡◌, ◌∙◌, sym, ap, subst, Bool}
use Rattle.std.specs.Map.{lookup, set_value}
use Rattle.vsw_layerflow.specs.declared.pair.Probe.{Probe}
use Rattle.vsw_layerflow.specs.Pairs.{probe}
use Rattle.vsw_layerflow.proofs.Lists.{one_test}
use Rattle.vsw_layerflow.proofs.Replaced.{none_is}
use Rattle.vsw_layerflow.proofs.maps.set_place.Goals as goal

pub returns-in-None-clause-some : goal.returns-in-None-clause-some
returns-in-None-clause-some c n e =
    let t = ap (λ (t : Probe → Bool). lookup t c.args.places.now.entries) (one_test _ c.probes_agree.ensures (probe c.args.dir c.args.key.now)) in
    absurd (none_is (c.in-None.ensures.value ∙ t ∙ e))

pub returns-in-Some-clause-some : goal.returns-in-Some-clause-some
returns-in-Some-clause-some c n e =
    let k = probe c.args.dir c.args.key.now in
    subst (λ (t : Probe → Bool). (c.get_mut.follows.lender c.args.number).entries ≡ set_value t c.args.places.now.entries c.args.number) (one_test _ c.probes_agree.ensures k) (search rules)

pub returns-in-Some-clause-none : goal.returns-in-Some-clause-none
returns-in-Some-clause-none c e =
    let t = ap (λ (t : Probe → Bool). lookup t c.args.places.now.entries) (one_test _ c.probes_agree.ensures (probe c.args.dir c.args.key.now)) in
    absurd (none_is (sym (c.in-Some.ensures.value ∙ t ∙ e)))
