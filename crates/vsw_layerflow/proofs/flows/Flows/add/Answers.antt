use Rattle.std.proofs.Common.{◌∙◌, ap, cond, Some, Option, ℕ}
use Rattle.std.specs.Map.{values_of}
use Rattle.vsw_layerflow.specs.declared.pair.Probe.{Probe}
use Rattle.vsw_layerflow.specs.Pairs.{same_probe, back, put_by_number}
use Rattle.vsw_layerflow.specs.Index.{in_order}
use Rattle.vsw_layerflow.proofs.Order.{put-last}
use Rattle.vsw_layerflow.proofs.Unordered.{added-in_order, added-pairs, number_free}
use Rattle.vsw_layerflow.proofs.flows.Flows.add.Goals as goal

pub put_pair-requires-clause-absent : goal.put_pair-requires-clause-absent
put_pair-requires-clause-absent c =
    let v = ap (λ w. w.pairs) c.self.view_is in
    let n = rw (← v) at c.requires.number_new in
    number_free c.args.pair.number c.self.inside.pairs.entries c.self.invariant.keyed n

pub invariant_of-self : goal.invariant_of-self
invariant_of-self c =
    let v = ap (λ w. w.pairs) c.self.view_is in
    let p = c.args.pair in
    let f = rw (← v) at c.requires.forward_free in
    let b = rw (← v) at c.requires.reverse_free in
    let n = rw (← v) at c.requires.number_new in
    let w = rw (← v) at c.requires.few in
    let i = rw c.front.ensures at c.put_place.ensures.place in
    let j = rw c.back.ensures at c.put_place-2.ensures.place in
    let u = λ (k : Probe). j k ∙ ap (λ (o : Option ℕ). cond (same_probe (back p) k) (Some p.number) o) (i k) in
    rw c.put_pair.ensures.entries (added-in_order c.self.inside.pairs.entries c.self.inside.places.entries p _ c.self.invariant f b n w u)

pub returns-clause-added : goal.returns-clause-added
returns-clause-added c =
    let v = ap (λ w. w.pairs) c.self.view_is in
    let p = c.args.pair in
    let n = rw (← v) at c.requires.number_new in
    ap (λ es. values_of (in_order es)) c.put_pair.ensures.entries
    ∙ added-pairs c.self.inside.pairs.entries c.self.inside.places.entries p c.self.invariant n
    ∙ ap (put_by_number p) v

pub returns-clause-last : goal.returns-clause-last
returns-clause-last c below = returns-clause-added c ∙ put-last c.args.pair _ below
