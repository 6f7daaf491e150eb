use Rattle.std.proofs.Common.{◌∙◌, ap, sym, cond, None, Option, ℕ, option_copied}
use Rattle.vsw_layerflow.specs.declared.pair.Probe.{Probe}
use Rattle.vsw_layerflow.specs.Pairs.{without, same_probe, back}
use Rattle.vsw_layerflow.specs.Index.{in_order}
use Rattle.vsw_layerflow.proofs.Kept.{without-none}
use Rattle.vsw_layerflow.proofs.Lists.{at_number}
use Rattle.vsw_layerflow.proofs.InOrder.{lookup-in_order}
use Rattle.vsw_layerflow.proofs.Unordered.{removed-in_order, taken-in_order}
use Rattle.vsw_layerflow.proofs.flows.Flows.remove.Goals as goal

pub returns-in_default-clause-gone : goal.returns-in_default-clause-gone
returns-in_default-clause-gone c =
    let es = c.self.inside.pairs.entries in
    let v = ap (λ w. w.pairs) c.self.view_is in
    let none = sym (at_number c.args.number (in_order es) c.self.invariant.keyed) ∙ lookup-in_order c.args.number es ∙ sym c.get.ensures.value ∙ ap option_copied c.in_default.is in
    sym (without-none c.args.number c.args.self.now.pairs (rw (← v) none))

pub invariant_of-self : goal.invariant_of-self
invariant_of-self c =
    let i = rw c.front.ensures at c.take_place.ensures.place in
    let j = rw c.back.ensures at c.take_place-2.ensures.place in
    let p = c.in-Some.pair.now in
    let u = λ (k : Probe). j k ∙ ap (λ (o : Option ℕ). cond (same_probe (back p) k) None o) (i k) in
    removed-in_order c.args.number p c.self.inside.pairs.entries _ c.self.inside.places.entries _ c.self.invariant c.drop_pair.ensures.unique c.drop_pair.ensures.gone (sym c.get.ensures.value ∙ ap option_copied c.in-Some.is) u

pub returns-clause-gone : goal.returns-clause-gone
returns-clause-gone c =
    taken-in_order c.args.number c.self.inside.pairs.entries _ c.self.inside.places.entries c.self.invariant c.drop_pair.ensures.unique c.drop_pair.ensures.gone
    ∙ ap (λ w. without c.args.number w.pairs) c.self.view_is
