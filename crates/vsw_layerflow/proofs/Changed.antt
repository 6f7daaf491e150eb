-- The two maps after a pair came.
use Rattle.std.proofs.Common.{◌≡◌, ℕ, ◌==◌, nat_le, Bool, true, false, cond, if◌then◌else◌, ◌||◌, List, [], ◌∷◌, map, None, Some, option_map, refl, sym, ap, subst, ◌∙◌, arith, length, ◌<◌, ◌-◌, ◌^◌}
use Rattle.std.specs.Map.{keys_of, values_of, lookup}
use Rattle.vsw_layerflow.specs.declared.pair.Probe.{Probe}
use Rattle.vsw_layerflow.specs.declared.pair.Pair.{Pair}
use Rattle.vsw_layerflow.specs.Pairs.{front, back, same_probe, holds, holder, numbered, number_of, put_by_number, AllApart, AreRising}
use Rattle.vsw_layerflow.specs.Index.{entered, IsIndex}
use Rattle.vsw_layerflow.proofs.Order.{other_number, other_number-rest, rising-put, few-put}
use Rattle.vsw_layerflow.proofs.Lists.{head_is, tail_is, same_is, same_self}

keyed-entered : (p : Pair) (es : List (ℕ × Pair)) → keys_of es ≡ map number_of (values_of es) → keys_of (entered (p.number, p) es) ≡ map number_of (values_of (entered (p.number, p) es))
keyed-entered p [] h = refl
keyed-entered p (e ∷ es) h =
    let a : e.0 ≡ e.1.number = head_is h in
    let b : keys_of es ≡ map number_of (values_of es) = tail_is h in
    let c = keyed-entered p es b in
    elim (nat_le p.number e.0) as (λ t. keys_of (if t then (p.number, p) ∷ e ∷ es else e ∷ entered (p.number, p) es) ≡ map number_of (values_of (if t then (p.number, p) ∷ e ∷ es else e ∷ entered (p.number, p) es))) [ true ↦ rw (a, b) refl | false ↦ rw (a, c) refl ]

pub values-entered : (p : Pair) (es : List (ℕ × Pair)) → keys_of es ≡ map number_of (values_of es) → values_of (entered (p.number, p) es) ≡ put_by_number p (values_of es)
values-entered p [] h = refl
values-entered p (e ∷ es) h = by (nat_le p.number e.0) refl (values-entered p es (tail_is h))
  where
    by : (t : Bool) → nat_le p.number e.0 ≡ t → values_of (entered (p.number, p) es) ≡ put_by_number p (values_of es) → values_of (entered (p.number, p) (e ∷ es)) ≡ put_by_number p (values_of (e ∷ es))
    by true s ih =
        let a : e.0 ≡ e.1.number = head_is h in
        let u : nat_le p.number e.1.number ≡ true = sym (ap (nat_le p.number) a) ∙ s in
        rw (s, u) refl
    by false s ih =
        let a : e.0 ≡ e.1.number = head_is h in
        let u : nat_le p.number e.1.number ≡ false = sym (ap (nat_le p.number) a) ∙ s in
        rw (s, u) (ap (λ l. e.1 ∷ l) ih)

-- who does not hold a probe that is free holds another
pub not-held : (k : Probe) (ps : List Pair) (q : Pair) → holder k (q ∷ ps) ≡ None → holds k q ≡ false
not-held k ps q e = by (holds k q) refl
  where
    by : (b : Bool) → holds k q ≡ b → b ≡ false
    by true t = grind arith
    by false f = refl

pub not-held-rest : (k : Probe) (ps : List Pair) (q : Pair) → holder k (q ∷ ps) ≡ None → holder k ps ≡ None
not-held-rest k ps q e = let f = not-held k ps q e in sym (ap (λ b. if b then Some q else holder k ps) f) ∙ e

neither : (a b : Bool) → (a || b) ≡ false → (a ≡ false) × (b ≡ false)
neither a b e = grind arith

both_false : (a b : Bool) → a ≡ false → b ≡ false → (a || b) ≡ false
both_false a b e f = rw (e, f) refl

same-sym : (a b : Probe) → same_probe a b ≡ false → same_probe b a ≡ false
same-sym a b e = by (same_probe b a) refl
  where
    by : (c : Bool) → same_probe b a ≡ c → c ≡ false
    by true t =
        let i = same_is b a t in
        let g : same_probe a a ≡ false = subst (λ x. same_probe a x ≡ false) i e in
        grind (arith, same_self)
    by false f = refl

-- what the pair doesn't hold leads where it led
holder-put : (k : Probe) (p : Pair) (ps : List Pair) → holds k p ≡ false → holder k (put_by_number p ps) ≡ holder k ps
holder-put k p [] h = rw h refl
holder-put k p (q ∷ ps) h = by (nat_le p.number q.number) refl (holder-put k p ps h)
  where
    by : (b : Bool) → nat_le p.number q.number ≡ b → holder k (put_by_number p ps) ≡ holder k ps → holder k (put_by_number p (q ∷ ps)) ≡ holder k (q ∷ ps)
    by true s ih = rw (s, h) refl
    by false s ih = rw (s, ih) refl

-- what it holds, and nobody did, leads to it
holder-free : (k : Probe) (p : Pair) (ps : List Pair) → holder k ps ≡ None → holds k p ≡ true → holder k (put_by_number p ps) ≡ Some p
holder-free k p [] f h = rw h refl
holder-free k p (q ∷ ps) f h = by (nat_le p.number q.number) refl (holder-free k p ps (not-held-rest k ps q f) h)
  where
    by : (b : Bool) → nat_le p.number q.number ≡ b → holder k (put_by_number p ps) ≡ Some p → holder k (put_by_number p (q ∷ ps)) ≡ Some p
    by true s ih = rw (s, h) refl
    by false s ih = let other = not-held k ps q f in rw (s, other, ih) refl

numbered-put : (n : ℕ) (p : Pair) (ps : List Pair) → (n == p.number) ≡ false → numbered n (put_by_number p ps) ≡ numbered n ps
numbered-put n p [] h = rw h refl
numbered-put n p (q ∷ ps) h = by (nat_le p.number q.number) refl (numbered-put n p ps h)
  where
    by : (b : Bool) → nat_le p.number q.number ≡ b → numbered n (put_by_number p ps) ≡ numbered n ps → numbered n (put_by_number p (q ∷ ps)) ≡ numbered n (q ∷ ps)
    by true s ih = rw (s, h) refl
    by false s ih = rw (s, ih) refl

apart-put : (p : Pair) (ps : List Pair) → AllApart ps → holder (front p) ps ≡ None → holder (back p) ps ≡ None → numbered p.number ps ≡ None → AllApart (put_by_number p ps)
apart-put p [] h f b n = (refl, refl, refl, tt)
apart-put p (q ∷ ps) h f b n =
    let f1 = not-held (front p) ps q f in
    let b1 = not-held (back p) ps q b in
    let n1 : (p.number == q.number) ≡ false = other_number p.number ps q n in
    let n2 : (q.number == p.number) ≡ false = grind arith in
    let x = neither (same_probe (front q) (front p)) (same_probe (back q) (front p)) f1 in
    let y = neither (same_probe (front q) (back p)) (same_probe (back q) (back p)) b1 in
    let g1 : holds (front q) p ≡ false = both_false _ _ (same-sym (front q) (front p) x.0) (same-sym (front q) (back p) y.0) in
    let g2 : holds (back q) p ≡ false = both_false _ _ (same-sym (back q) (front p) x.1) (same-sym (back q) (back p) y.1) in
    let rest = apart-put p ps h.3 (not-held-rest (front p) ps q f) (not-held-rest (back p) ps q b) (other_number-rest p.number ps q n) in
    let front_apart = holder-put (front q) p ps g1 ∙ h.0 in
    let back_apart = holder-put (back q) p ps g2 ∙ h.1 in
    let number_apart = numbered-put q.number p ps n2 ∙ h.2 in
    elim (nat_le p.number q.number) as (λ t. AllApart (if t then p ∷ q ∷ ps else q ∷ put_by_number p ps)) [ true ↦ (f, b, n, h) | false ↦ (front_apart, back_apart, number_apart, rest) ]

pub added-by : (es : List (ℕ × Pair)) (p : Pair) (ms : List (Probe × ℕ)) → keys_of es ≡ map number_of (values_of es) → AllApart (values_of es) → AreRising (values_of es)
    → holder (front p) (values_of es) ≡ None → holder (back p) (values_of es) ≡ None → numbered p.number (values_of es) ≡ None → length (values_of es) < 2 ^ 32 - 1
    → ((k : Probe) → lookup (same_probe k) ms ≡ cond (same_probe (back p) k) (Some p.number) (cond (same_probe (front p) k) (Some p.number) (option_map number_of (holder k (values_of es)))))
    → IsIndex (entered (p.number, p) es) ms
added-by es p ms keyed apart rising f b n w u =
    let v = values-entered p es keyed in
    record {
      keyed = keyed-entered p es keyed;
      indexed = at;
      apart = rw v (apart-put p (values_of es) apart f b n);
      rising = rw v (rising-put p (values_of es) rising n);
      few = rw v (few-put p (values_of es) w);
    }
  where
    by : (k : Probe) → (c d : Bool) → same_probe (back p) k ≡ c → same_probe (front p) k ≡ d → cond c (Some p.number) (cond d (Some p.number) (option_map number_of (holder k (values_of es)))) ≡ option_map number_of (holder k (put_by_number p (values_of es)))
    by k true true s t =
        let i = same_is (back p) k s in
        let g : holder k (values_of es) ≡ None = rw (← i) b in
        let o : holds k p ≡ true = rw t refl in
        rw (holder-free k p (values_of es) g o) refl
    by k true false s t =
        let i = same_is (back p) k s in
        let g : holder k (values_of es) ≡ None = rw (← i) b in
        let o : holds k p ≡ true = rw (t, s) refl in
        rw (holder-free k p (values_of es) g o) refl
    by k false true s t =
        let i = same_is (front p) k t in
        let g : holder k (values_of es) ≡ None = rw (← i) f in
        let o : holds k p ≡ true = rw t refl in
        rw (holder-free k p (values_of es) g o) refl
    by k false false s t = let o : holds k p ≡ false = rw (t, s) refl in rw (holder-put k p (values_of es) o) refl

    at : (k : Probe) → lookup (same_probe k) ms ≡ option_map number_of (holder k (values_of (entered (p.number, p) es)))
    at k = rw (u k, values-entered p es keyed) (by k (same_probe (back p) k) (same_probe (front p) k) refl refl)

pub added : (es : List (ℕ × Pair)) (ls : List (Probe × ℕ)) (p : Pair) (ms : List (Probe × ℕ)) → IsIndex es ls
    → holder (front p) (values_of es) ≡ None → holder (back p) (values_of es) ≡ None → numbered p.number (values_of es) ≡ None → length (values_of es) < 2 ^ 32 - 1
    → ((k : Probe) → lookup (same_probe k) ms ≡ cond (same_probe (back p) k) (Some p.number) (cond (same_probe (front p) k) (Some p.number) (lookup (same_probe k) ls)))
    → IsIndex (entered (p.number, p) es) ms
added es ls p ms h f b n w u = added-by es p ms h.keyed h.apart h.rising f b n w (λ k. u k ∙ rw (h.indexed k) refl)
