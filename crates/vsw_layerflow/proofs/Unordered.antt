-- The two maps after a change, whatever order the first has its entries in.
use Rattle.std.proofs.Common.{◌≡◌, ◌<◌, ◌≤◌, ◌-◌, ◌^◌, ℕ, ◌==◌, nat_eq, Bool, not, cond, List, [], ◌∷◌, ◌++◌, filter, map, length, None, Some, is_some, sym, ap, ◌∙◌}
use Rattle.std.specs.Map.{keys_of, values_of, lookup, set_value}
use Rattle.std.specs.List.{IsDistinct}
use Rattle.std.proofs.lemmas.Map.Entries.{option_filter}
use Rattle.vsw_base.specs.declared.flow.Track.{Track}
use Rattle.vsw_layerflow.specs.declared.pair.Probe.{Probe}
use Rattle.vsw_layerflow.specs.declared.pair.Pair.{Pair}
use Rattle.vsw_layerflow.specs.Pairs.{front, back, same_probe, holder, with_use, touched, without, numbered, number_of, put_by_number}
use Rattle.vsw_layerflow.specs.Index.{in_order, IsIndex}
use Rattle.vsw_layerflow.proofs.Lists.{at_number}
use Rattle.vsw_layerflow.proofs.Order.{counted}
use Rattle.vsw_layerflow.proofs.Changed.{added, values-entered}
use Rattle.vsw_layerflow.proofs.Moved.{touch}
use Rattle.vsw_layerflow.proofs.Kept.{removed, remove-filter, swept, values-filter}
use Rattle.vsw_layerflow.proofs.InOrder.{lookup-in_order, length-in_order, in_order-push, filter-in_order, set-in_order}
use Rattle.vsw_layerflow.proofs.Taken.{taken}

-- a pair's number is free among the entries where it is free among the pairs
pub number_free : (n : ℕ) (es : List (ℕ × Pair)) → keys_of (in_order es) ≡ map number_of (values_of (in_order es)) → numbered n (values_of (in_order es)) ≡ None → lookup (nat_eq n) es ≡ None
number_free n es k h = sym (lookup-in_order n es) ∙ at_number n (in_order es) k ∙ h

pub added-in_order : (es : List (ℕ × Pair)) (ls : List (Probe × ℕ)) (p : Pair) (ms : List (Probe × ℕ)) → IsIndex (in_order es) ls
    → holder (front p) (values_of (in_order es)) ≡ None → holder (back p) (values_of (in_order es)) ≡ None → numbered p.number (values_of (in_order es)) ≡ None → length (values_of (in_order es)) < 2 ^ 32 - 1
    → ((k : Probe) → lookup (same_probe k) ms ≡ cond (same_probe (back p) k) (Some p.number) (cond (same_probe (front p) k) (Some p.number) (lookup (same_probe k) ls)))
    → IsIndex (in_order (es ++ (p.number, p) ∷ [])) ms
added-in_order es ls p ms h f b n w u = rw (in_order-push (p.number, p) es (number_free p.number es h.keyed n)) (added (in_order es) ls p ms h f b n w u)

pub added-pairs : (es : List (ℕ × Pair)) (ls : List (Probe × ℕ)) (p : Pair) → IsIndex (in_order es) ls → numbered p.number (values_of (in_order es)) ≡ None
    → values_of (in_order (es ++ (p.number, p) ∷ [])) ≡ put_by_number p (values_of (in_order es))
added-pairs es ls p h n = ap values_of (in_order-push (p.number, p) es (number_free p.number es h.keyed n)) ∙ values-entered p (in_order es) h.keyed

pub touched-in_order : (n : ℕ) (t : Track) (m : ℕ) (es fs : List (ℕ × Pair)) (ls : List (Probe × ℕ)) → IsIndex (in_order es) ls
    → ((p : Pair) → lookup (nat_eq n) es ≡ Some p → fs ≡ set_value (nat_eq n) es (with_use t m p))
    → (lookup (nat_eq n) es ≡ None → fs ≡ es)
    → IsIndex (in_order fs) ls × (values_of (in_order fs) ≡ touched n t m (values_of (in_order es)))
touched-in_order n t m es fs ls h some none =
    touch n t m (in_order es) (in_order fs) ls h
    (λ p e. ap in_order (some p (sym (lookup-in_order n es) ∙ e)) ∙ set-in_order n (with_use t m p) es)
    (λ e. ap in_order (none (sym (lookup-in_order n es) ∙ e)))

pub taken-in_order : (n : ℕ) (es fs : List (ℕ × Pair)) (ls : List (Probe × ℕ)) → IsIndex (in_order es) ls → IsDistinct nat_eq (keys_of fs)
    → ((q : ℕ) → lookup (nat_eq q) fs ≡ cond (n == q) None (lookup (nat_eq q) es))
    → values_of (in_order fs) ≡ without n (values_of (in_order es))
taken-in_order n es fs ls h d u =
    ap values_of (taken n es fs h.keyed h.rising d u ∙ remove-filter n (in_order es) h.keyed h.apart)
    ∙ values-filter (λ (p : Pair). not (n == p.number)) (in_order es)

pub removed-in_order : (n : ℕ) (p : Pair) (es fs : List (ℕ × Pair)) (ls ms : List (Probe × ℕ)) → IsIndex (in_order es) ls → IsDistinct nat_eq (keys_of fs)
    → ((q : ℕ) → lookup (nat_eq q) fs ≡ cond (n == q) None (lookup (nat_eq q) es))
    → lookup (nat_eq n) es ≡ Some p
    → ((q : Probe) → lookup (same_probe q) ms ≡ cond (same_probe (back p) q) None (cond (same_probe (front p) q) None (lookup (same_probe q) ls)))
    → IsIndex (in_order fs) ms
removed-in_order n p es fs ls ms h d u e v =
    let t = taken n es fs h.keyed h.rising d u in
    rw t (removed n p (in_order es) ls ms h (lookup-in_order n es ∙ e) v)

pub swept-in_order : (f : Pair → Bool) (es fs : List (ℕ × Pair)) (ls ms : List (Probe × ℕ)) → IsIndex (in_order es) ls → fs ≡ filter (λ e. f e.1) es
    → ((q : Probe) → lookup (same_probe q) ms ≡ option_filter (λ n. is_some (lookup (nat_eq n) fs)) (lookup (same_probe q) ls))
    → IsIndex (in_order fs) ms × (values_of (in_order fs) ≡ filter f (values_of (in_order es)))
swept-in_order f es fs ls ms h e u =
    swept f (in_order es) (in_order fs) ls ms h (ap in_order e ∙ filter-in_order (λ e. f e.1) es)
    (λ q. u q ∙ ap (λ (t : ℕ → Bool). option_filter t (lookup (same_probe q) ls)) (λ j n. is_some (sym (lookup-in_order n fs) j)))

pub counted-in_order : (f : Pair → Bool) (es fs : List (ℕ × Pair)) (before after : ℕ) → before ≡ length es → after ≡ length fs → fs ≡ filter (λ e. not (f e.1)) es
    → (after ≤ before) × (before - after ≡ length (filter f (values_of (in_order es))))
counted-in_order f es fs before after b a e =
    counted f (in_order es) (in_order fs) before after (b ∙ sym (length-in_order es)) (a ∙ sym (length-in_order fs)) (ap in_order e ∙ filter-in_order (λ e. not (f e.1)) es)
