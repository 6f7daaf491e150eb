-- Entries in the order of their numbers, after one went: two such lists in which each number leads to the same are one.
use Rattle.std.proofs.Common.{◌≡◌, ◌<◌, ◌≤◌, ℕ, ◌==◌, nat_eq, nat_le, nat_lt, Bool, true, false, cond, if◌then◌else◌, List, [], ◌∷◌, map, Option, None, Some, refl, sym, ap, ◌∙◌, arith, true≢false}
use Rattle.std.specs.Map.{keys_of, values_of, lookup, remove_entry}
use Rattle.std.specs.List.{IsDistinct}
use Rattle.std.proofs.lemmas.Map.{lookup-none}
use Rattle.std.specs.Cmp.{nat_eq_equiv}
use Rattle.std.proofs.lemmas.Map.Entries.{none_past_head}
use Rattle.vsw_layerflow.specs.declared.pair.Pair.{Pair}
use Rattle.vsw_layerflow.specs.Pairs.{number_of, AllAbove, AreRising}
use Rattle.vsw_layerflow.specs.Index.{entered, in_order}
use Rattle.vsw_layerflow.proofs.Lists.{head_is, tail_is, eq_self}
use Rattle.vsw_layerflow.proofs.Moved.{some_is}
use Rattle.vsw_layerflow.proofs.InOrder.{lookup-in_order}

Above : ℕ → List (ℕ × Pair) → Type 0
Above n [] = Unit {0}
Above n (e ∷ es) = (n < e.0) × Above n es

Rises : List (ℕ × Pair) → Type 0
Rises [] = Unit {0}
Rises (e ∷ es) = Above e.0 es × Rises es

above-less : (n m : ℕ) (fs : List (ℕ × Pair)) → n < m → Above m fs → Above n fs
unfolding Above
above-less n m [] i h = tt
above-less n m (f ∷ fs) i h = let j : m < f.0 = h.0 in (grind arith, above-less n m fs i h.1)

none-above : (n m : ℕ) (fs : List (ℕ × Pair)) → n ≤ m → Above m fs → lookup (nat_eq n) fs ≡ None
unfolding Above
none-above n m [] i h = refl
none-above n m (f ∷ fs) i h =
    let j : m < f.0 = h.0 in
    let w : (n == f.0) ≡ false = grind arith in
    rw (w, none-above n m fs i h.1) refl

none_is_some : {p : Pair} → None ≡ Some p → ⊥
none_is_some e = grind arith

-- who is found at the head of one list isn't below the head of the other
not-below : (e f : ℕ × Pair) (es fs : List (ℕ × Pair)) → Above f.0 fs → lookup (nat_eq e.0) (e ∷ es) ≡ lookup (nat_eq e.0) (f ∷ fs) → nat_lt e.0 f.0 ≡ false
not-below e f es fs a h = by (nat_lt e.0 f.0) refl
  where
    by : (b : Bool) → nat_lt e.0 f.0 ≡ b → b ≡ false
    by false s = refl
    by true s =
        let i : e.0 < f.0 = grind arith in
        let j : e.0 ≤ f.0 = grind arith in
        let w : (e.0 == f.0) ≡ false = grind arith in
        let t : (e.0 == e.0) ≡ true = eq_self e.0 in
        let l : lookup (nat_eq e.0) (f ∷ fs) ≡ None = rw (w, none-above e.0 f.0 fs j a) refl in
        let r : lookup (nat_eq e.0) (e ∷ es) ≡ Some e.1 = rw t refl in
        absurd (none_is_some (sym l ∙ sym h ∙ r))

one-list : (gs hs : List (ℕ × Pair)) → Rises gs → Rises hs → ((n : ℕ) → lookup (nat_eq n) gs ≡ lookup (nat_eq n) hs) → gs ≡ hs
unfolding Rises
one-list [] [] a b h = refl
one-list [] (f ∷ fs) a b h = let t : (f.0 == f.0) ≡ true = eq_self f.0 in let r : lookup (nat_eq f.0) (f ∷ fs) ≡ Some f.1 = rw t refl in absurd (none_is_some (h f.0 ∙ r))
one-list (e ∷ es) [] a b h = let t : (e.0 == e.0) ≡ true = eq_self e.0 in let r : lookup (nat_eq e.0) (e ∷ es) ≡ Some e.1 = rw t refl in absurd (none_is_some (sym (h e.0) ∙ r))
one-list (e ∷ es) (f ∷ fs) a b h = (λ j. (k j, v j) ∷ one-list es fs a.1 b.1 rest j)
  where
    x : nat_lt e.0 f.0 ≡ false
    x = not-below e f es fs b.0 (h e.0)

    y : nat_lt f.0 e.0 ≡ false
    y = not-below f e fs es a.0 (sym (h f.0))

    k : e.0 ≡ f.0
    k = grind (arith, x, y)

    t : (e.0 == e.0) ≡ true
    t = eq_self e.0

    u : (e.0 == f.0) ≡ true
    u = grind (arith, k)

    v : e.1 ≡ f.1
    v =
        let l : lookup (nat_eq e.0) (e ∷ es) ≡ Some e.1 = rw t refl in
        let r : lookup (nat_eq e.0) (f ∷ fs) ≡ Some f.1 = rw u refl in
        some_is (sym l ∙ h e.0 ∙ r)

    rest : (n : ℕ) → lookup (nat_eq n) es ≡ lookup (nat_eq n) fs
    rest n = by (n == e.0) refl
      where
        by : (c : Bool) → (n == e.0) ≡ c → lookup (nat_eq n) es ≡ lookup (nat_eq n) fs
        by true s =
            let i : n ≤ e.0 = grind arith in
            let j : n ≤ f.0 = grind (arith, k) in
            none-above n e.0 es i a.0 ∙ sym (none-above n f.0 fs j b.0)
        by false s =
            let z : (n == f.0) ≡ false = grind (arith, k) in
            sym (ap (λ c. cond c (Some e.1) (lookup (nat_eq n) es)) s) ∙ h n ∙ ap (λ c. cond c (Some f.1) (lookup (nat_eq n) fs)) z

above-entered : (n : ℕ) (e : ℕ × Pair) (fs : List (ℕ × Pair)) → n < e.0 → Above n fs → Above n (entered e fs)
unfolding Above
above-entered n e [] i h = (i, tt)
above-entered n e (f ∷ fs) i h =
    let ih = above-entered n e fs i h.1 in
    elim (nat_le e.0 f.0) as (λ b. Above n (if b then e ∷ f ∷ fs else f ∷ entered e fs)) [ true ↦ (i, h) | false ↦ (h.0, ih) ]

-- a number that leads nowhere isn't the first's, nor in the rest
other-head : (n : ℕ) (f : ℕ × Pair) (fs : List (ℕ × Pair)) → lookup (nat_eq n) (f ∷ fs) ≡ None → ((n == f.0) ≡ false) × (lookup (nat_eq n) fs ≡ None)
other-head n f fs h = by (n == f.0) refl
  where
    by : (b : Bool) → (n == f.0) ≡ b → ((n == f.0) ≡ false) × (lookup (nat_eq n) fs ≡ None)
    by true s = absurd (none_is_some (sym h ∙ ap (λ c. cond c (Some f.1) (lookup (nat_eq n) fs)) s))
    by false s = (s, sym (ap (λ c. cond c (Some f.1) (lookup (nat_eq n) fs)) s) ∙ h)

rises-entered : (e : ℕ × Pair) (fs : List (ℕ × Pair)) → Rises fs → lookup (nat_eq e.0) fs ≡ None → Rises (entered e fs)
unfolding Above Rises
rises-entered e [] h l = (tt, tt)
rises-entered e (f ∷ fs) h l = let o = other-head e.0 f fs l in by (nat_le e.0 f.0) refl o.0 (rises-entered e fs h.1 o.1)
  where
    by : (b : Bool) → nat_le e.0 f.0 ≡ b → (e.0 == f.0) ≡ false → Rises (entered e fs) → Rises (if b then e ∷ f ∷ fs else f ∷ entered e fs)
    by true s o ih = let i : e.0 < f.0 = grind arith in ((i, above-less e.0 f.0 fs i h.0), h)
    by false s o ih = let i : f.0 < e.0 = grind arith in (above-entered f.0 e fs i h.0, ih)

rises-in_order : (es : List (ℕ × Pair)) → IsDistinct nat_eq (keys_of es) → Rises (in_order es)
unfolding Rises IsDistinct
rises-in_order [] d = tt
rises-in_order (e ∷ es) d =
    let n = none_past_head nat_eq_equiv e.0 e es d (eq_self e.0) in
    rises-entered e (in_order es) (rises-in_order es d.1) (lookup-in_order e.0 es ∙ lookup-none (nat_eq e.0) es n)

above_from_pairs : (n : ℕ) (es : List (ℕ × Pair)) → keys_of es ≡ map number_of (values_of es) → AllAbove n (values_of es) → Above n es
unfolding Above
above_from_pairs n [] k h = tt
above_from_pairs n (e ∷ es) k h =
    let i : e.0 ≡ e.1.number = head_is k in
    let b : n < e.1.number = h.0 in
    (grind arith, above_from_pairs n es (tail_is k) h.1)

rises_from_pairs : (es : List (ℕ × Pair)) → keys_of es ≡ map number_of (values_of es) → AreRising (values_of es) → Rises es
unfolding Rises
rises_from_pairs [] k h = tt
rises_from_pairs (e ∷ es) k h =
    let i : e.0 ≡ e.1.number = head_is k in
    let b : AllAbove e.0 (values_of es) = rw i h.0 in
    (above_from_pairs e.0 es (tail_is k) b, rises_from_pairs es (tail_is k) h.1)

above-remove : (n m : ℕ) (es : List (ℕ × Pair)) → Above m es → Above m (remove_entry (nat_eq n) es)
unfolding Above
above-remove n m [] h = tt
above-remove n m (e ∷ es) h =
    let ih = above-remove n m es h.1 in
    elim (n == e.0) as (λ b. Above m (cond b es (e ∷ remove_entry (nat_eq n) es))) [ true ↦ h.1 | false ↦ (h.0, ih) ]

rises-remove : (n : ℕ) (es : List (ℕ × Pair)) → Rises es → Rises (remove_entry (nat_eq n) es)
unfolding Rises
rises-remove n [] h = tt
rises-remove n (e ∷ es) h =
    let ih = rises-remove n es h.1 in
    let a = above-remove n e.0 es h.0 in
    elim (n == e.0) as (λ b. Rises (cond b es (e ∷ remove_entry (nat_eq n) es))) [ true ↦ h.1 | false ↦ (a, ih) ]

lookup-remove : (n q : ℕ) (es : List (ℕ × Pair)) → Rises es → lookup (nat_eq q) (remove_entry (nat_eq n) es) ≡ cond (n == q) None (lookup (nat_eq q) es)
unfolding Rises
lookup-remove n q [] h = none (n == q)
  where
    nothing : Option Pair
    nothing = None

    none : (b : Bool) → nothing ≡ cond b None nothing
    none true = refl
    none false = refl
lookup-remove n q (e ∷ es) h = by (n == e.0) (n == q) (q == e.0) refl refl refl (lookup-remove n q es h.1)
  where
    by : (a b c : Bool) → (n == e.0) ≡ a → (n == q) ≡ b → (q == e.0) ≡ c → lookup (nat_eq q) (remove_entry (nat_eq n) es) ≡ cond (n == q) None (lookup (nat_eq q) es) → lookup (nat_eq q) (remove_entry (nat_eq n) (e ∷ es)) ≡ cond (n == q) None (lookup (nat_eq q) (e ∷ es))
    by true true c x y z ih = let i : q ≤ e.0 = grind arith in rw (x, y) (none-above q e.0 es i h.0)
    by true false true x y z ih = let w : (n == q) ≡ true = grind arith in absurd (true≢false (sym w ∙ y))
    by true false false x y z ih = rw (x, y, z) refl
    by false true true x y z ih = let w : (n == e.0) ≡ true = grind arith in absurd (true≢false (sym w ∙ x))
    by false true false x y z ih = rw (x, z, ih, y) refl
    by false false true x y z ih = rw (x, z, y) refl
    by false false false x y z ih = rw (x, z, ih, y) refl

-- the pairs are in order again after a removal that moved some
pub taken : (n : ℕ) (es fs : List (ℕ × Pair)) → keys_of (in_order es) ≡ map number_of (values_of (in_order es)) → AreRising (values_of (in_order es)) → IsDistinct nat_eq (keys_of fs)
    → ((q : ℕ) → lookup (nat_eq q) fs ≡ cond (n == q) None (lookup (nat_eq q) es))
    → in_order fs ≡ remove_entry (nat_eq n) (in_order es)
taken n es fs k r d u =
    let s = rises_from_pairs (in_order es) k r in
    one-list (in_order fs) (remove_entry (nat_eq n) (in_order es)) (rises-in_order fs d) (rises-remove n (in_order es) s)
    (λ q. lookup-in_order q fs ∙ u q ∙ ap (λ o. cond (n == q) None o) (sym (lookup-in_order q es)) ∙ sym (lookup-remove n q (in_order es) s))
