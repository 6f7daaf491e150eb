-- The two maps after a pair was touched or went.
use Rattle.std.proofs.Common.{◌≡◌, ℕ, ◌==◌, nat_eq, Bool, true, false, cond, if◌then◌else◌, List, [], ◌∷◌, map, Option, None, Some, option_map, refl, sym, ap, ◌∙◌, arith}
use Rattle.std.specs.Map.{keys_of, values_of, lookup, set_value}
use Rattle.vsw_layerflow.specs.declared.pair.Probe.{Probe}
use Rattle.vsw_layerflow.specs.declared.pair.Pair.{Pair}
use Rattle.vsw_base.specs.declared.flow.Track.{Track}
use Rattle.vsw_layerflow.specs.Pairs.{front, back, holds, holder, numbered, with_use, touch_if, touched, number_of, AllApart}
use Rattle.vsw_layerflow.specs.Index.{IsIndex}
use Rattle.vsw_layerflow.proofs.Order.{rising-touched, length-touched, other_number, other_number-rest}
use Rattle.vsw_layerflow.proofs.Lists.{head_is, tail_is, at_number}

touched-holder : (n : ℕ) (t : Track) (m : ℕ) (k : Probe) (ps : List Pair) → holder k (touched n t m ps) ≡ option_map (touch_if n t m) (holder k ps)
touched-holder n t m k [] = refl
touched-holder n t m k (p ∷ ps) =
    let ih = touched-holder n t m k ps in
    elim (holds k p) as (λ b. (if b then Some (touch_if n t m p) else holder k (touched n t m ps)) ≡ option_map (touch_if n t m) (if b then Some p else holder k ps)) [ true ↦ refl | false ↦ ih ]

touched-numbered : (n : ℕ) (t : Track) (m : ℕ) (k : ℕ) (ps : List Pair) → numbered k (touched n t m ps) ≡ option_map (touch_if n t m) (numbered k ps)
touched-numbered n t m k [] = refl
touched-numbered n t m k (p ∷ ps) =
    let ih = touched-numbered n t m k ps in
    elim (k == p.number) as (λ b. (if b then Some (touch_if n t m p) else numbered k (touched n t m ps)) ≡ option_map (touch_if n t m) (if b then Some p else numbered k ps)) [ true ↦ refl | false ↦ ih ]

touched-apart : (n : ℕ) (t : Track) (m : ℕ) (ps : List Pair) → AllApart ps → AllApart (touched n t m ps)
touched-apart n t m [] h = tt
touched-apart n t m (p ∷ ps) h = (
  touched-holder n t m (front p) ps ∙ rw h.0 refl,
  touched-holder n t m (back p) ps ∙ rw h.1 refl,
  touched-numbered n t m p.number ps ∙ rw h.2 refl,
  touched-apart n t m ps h.3,
)

touched-none : (n : ℕ) (t : Track) (m : ℕ) (ps : List Pair) → numbered n ps ≡ None → touched n t m ps ≡ ps
touched-none n t m [] h = refl
touched-none n t m (p ∷ ps) h = rw (other_number n ps p h, touched-none n t m ps (other_number-rest n ps p h)) refl

pub some_is : {p q : Pair} → Some p ≡ Some q → p ≡ q
some_is e = grind arith

pub touched-values : (n : ℕ) (t : Track) (m : ℕ) (p : Pair) (es : List (ℕ × Pair)) → keys_of es ≡ map number_of (values_of es) → AllApart (values_of es) → numbered n (values_of es) ≡ Some p → values_of (set_value (nat_eq n) es (with_use t m p)) ≡ touched n t m (values_of es)
touched-values n t m p [] h a e = refl
touched-values n t m p (f ∷ es) h a e =
    by (n == f.0) refl (touched-values n t m p es (tail_is h) a.3)
  where
    by : (b : Bool) → (n == f.0) ≡ b → (numbered n (values_of es) ≡ Some p → values_of (set_value (nat_eq n) es (with_use t m p)) ≡ touched n t m (values_of es)) → values_of (set_value (nat_eq n) (f ∷ es) (with_use t m p)) ≡ touched n t m (values_of (f ∷ es))
    by true s ih =
        let i : f.0 ≡ f.1.number = head_is h in
        let g : (n == f.1.number) ≡ true = rw (← i) s in
        let u : n ≡ f.1.number = grind arith in
        let q : f.1 ≡ p = some_is (sym (ap (λ b. if b then Some f.1 else numbered n (values_of es)) g) ∙ e) in
        let w : numbered n (values_of es) ≡ None = rw u a.2 in
        rw (s, g, touched-none n t m (values_of es) w, q) refl
    by false s ih =
        let i : f.0 ≡ f.1.number = head_is h in
        let g : (n == f.1.number) ≡ false = rw (← i) s in
        let w : numbered n (values_of es) ≡ Some p = sym (ap (λ b. if b then Some f.1 else numbered n (values_of es)) g) ∙ e in
        rw (s, g, ih w) refl

keys-set : (n : ℕ) (w : Pair) (es : List (ℕ × Pair)) → keys_of (set_value (nat_eq n) es w) ≡ keys_of es
keys-set n w [] = refl
keys-set n w (e ∷ es) = let ih = keys-set n w es in elim (n == e.0) as (λ b. keys_of (cond b ((e.0, w) ∷ es) (e ∷ set_value (nat_eq n) es w)) ≡ e.0 ∷ keys_of es) [ true ↦ refl | false ↦ ap (λ l. e.0 ∷ l) ih ]

numbers-touched : (n : ℕ) (t : Track) (m : ℕ) (ps : List Pair) → map number_of (touched n t m ps) ≡ map number_of ps
numbers-touched n t m [] = refl
numbers-touched n t m (p ∷ ps) = ap (λ l. p.number ∷ l) (numbers-touched n t m ps)

touched-same : (f : Pair → Pair) → (o : Option Pair) → ((p : Pair) → number_of (f p) ≡ number_of p) → option_map number_of (option_map f o) ≡ option_map number_of o
touched-same f None h = refl
touched-same f (Some p) h = ap Some (h p)

-- after a touch, both maps stand for the touched list
pub touch : (n : ℕ) (t : Track) (m : ℕ) (es fs : List (ℕ × Pair)) (ls : List (Probe × ℕ)) → IsIndex es ls
    → ((p : Pair) → lookup (nat_eq n) es ≡ Some p → fs ≡ set_value (nat_eq n) es (with_use t m p))
    → (lookup (nat_eq n) es ≡ None → fs ≡ es)
    → IsIndex fs ls × (values_of fs ≡ touched n t m (values_of es))
touch n t m es fs ls h some none = by (numbered n (values_of es)) refl
  where
    at : lookup (nat_eq n) es ≡ numbered n (values_of es)
    at = at_number n es h.keyed

    all : (values_of fs ≡ touched n t m (values_of es)) → keys_of fs ≡ keys_of es → IsIndex fs ls × (values_of fs ≡ touched n t m (values_of es))
    all v k = (
      record {
        keyed = k ∙ h.keyed ∙ sym (ap (map number_of) v ∙ numbers-touched n t m (values_of es));
        indexed = λ q. h.indexed q ∙ sym (touched-same (touch_if n t m) (holder q (values_of es)) (λ p. refl)) ∙ ap (option_map number_of) (sym (touched-holder n t m q (values_of es))) ∙ ap (λ l. option_map number_of (holder q l)) (sym v);
        apart = rw v (touched-apart n t m (values_of es) h.apart);
        rising = rw v (rising-touched n t m (values_of es) h.rising);
        few = rw (v, length-touched n t m (values_of es)) h.few;
      },
      v,
    )

    by : (o : Option Pair) → numbered n (values_of es) ≡ o → IsIndex fs ls × (values_of fs ≡ touched n t m (values_of es))
    by None e = let s = none (at ∙ e) in all (ap values_of s ∙ sym (touched-none n t m (values_of es) e)) (ap keys_of s)
    by (Some p) e = let s = some p (at ∙ e) in all (ap values_of s ∙ touched-values n t m p es h.keyed h.apart e) (ap keys_of s ∙ keys-set n (with_use t m p) es)
