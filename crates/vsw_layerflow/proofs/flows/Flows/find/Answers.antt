use Rattle.std.proofs.Common.{rules, ◌≡◌, ◌∙◌, ap, sym, option_copied, refl, Bool, None}
use Rattle.std.specs.Map.{lookup, values_of}
use Rattle.vsw_layerflow.specs.declared.pair.Probe.{Probe}
use Rattle.vsw_layerflow.specs.Pairs.{pair_of, probe}
use Rattle.vsw_layerflow.specs.Index.{in_order}
use Rattle.vsw_layerflow.proofs.Lists.{found, one_test, unmapped}
use Rattle.vsw_layerflow.proofs.InOrder.{lookup-in_order}
use Rattle.vsw_layerflow.proofs.flows.Flows.find.Goals as goal

pub returns-in_err-number : goal.returns-in_err-number
returns-in_err-number c =
    let q = probe c.args.dir c.args.key.now in
    let v = ap (λ w. w.pairs) c.self.view_is in
    let t = ap (λ (t : Probe → Bool). lookup t c.self.inside.places.entries) (one_test _ c.probes_agree.ensures q) in
    let none = unmapped _ (sym (c.self.invariant.indexed q) ∙ sym t ∙ sym c.get.ensures.value ∙ ap option_copied c.in_err-number.was) in
    let free : pair_of c.args.dir c.args.key.now c.args.self.now.pairs ≡ None = rw (← v) none in
    search rules

pub returns : goal.returns
returns c =
    let q = probe c.args.dir c.args.key.now in
    let es = c.self.inside.pairs.entries in
    let v = ap (λ w. w.pairs) c.self.view_is in
    let t = ap (λ (t : Probe → Bool). lookup t c.self.inside.places.entries) (one_test _ c.probes_agree.ensures q) in
    let e = sym t ∙ sym c.get.ensures.value ∙ ap option_copied c.in_ok-number.was in
    let n = c.in_ok-number.number.now in
    rw (← v) (found (in_order es) (values_of (in_order es)) q _ _ c.self.invariant.keyed refl c.self.invariant.apart (c.self.invariant.indexed q) n e (c.get-2.ensures.value ∙ sym (lookup-in_order n es)))
