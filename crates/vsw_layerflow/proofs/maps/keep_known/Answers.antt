use Rattle.std.proofs.Common.{◌∙◌, ap, subst, rules, nat_eq, is_some, Bool, ℕ}
use Rattle.std.specs.Map.{lookup, keys_of}
use Rattle.std.specs.List.{IsDistinct}
use Rattle.std.proofs.lemmas.Map.Entries.{lookup-filter-values}
use Rattle.indexmap.proofs.CallerLemmas.{filter-RetainsPairs}
use Rattle.vsw_layerflow.specs.declared.pair.Probe.{Probe}
use Rattle.vsw_layerflow.specs.Pairs.{same_probe}
use Rattle.vsw_layerflow.proofs.Lists.{probe_laws, two_tests}
use Rattle.vsw_layerflow.proofs.maps.keep_known.Goals as goal

pub returns-clause-place : goal.returns-clause-place
returns-clause-place c q =
    let t : ℕ → Bool = λ n. is_some (lookup (nat_eq n) c.args.pairs.now.entries) in
    let e = filter-RetainsPairs _ (λ x. t x.1) _ (λ k v b w g call. search rules) _ _ c.retain.ensures.filtered in
    let d = subst (λ (E : Probe → Probe → Bool). IsDistinct E (keys_of c.args.places.now.entries)) (two_tests _ c.probes_agree.ensures) c.len.ensures.unique in
    ap (lookup (same_probe q)) e ∙ lookup-filter-values probe_laws t q c.args.places.now.entries d
