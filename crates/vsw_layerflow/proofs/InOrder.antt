-- Of entries in the order of their numbers.
use Rattle.std.proofs.Common.{suc, ◌≡◌, ◌≤◌, ℕ, ◌==◌, nat_eq, nat_le, Bool, true, false, cond, if◌then◌else◌, List, [], ◌∷◌, ◌++◌, filter, length, None, Some, refl, sym, ap, ◌∙◌, arith, true≢false}
use Rattle.std.specs.Map.{values_of, lookup, set_value}
use Rattle.vsw_layerflow.specs.declared.pair.Pair.{Pair}
use Rattle.vsw_layerflow.specs.Index.{entered, in_order}
use Rattle.vsw_layerflow.proofs.Order.{length-values}

-- the order changes no look-up
lookup-entered : (n : ℕ) (e : ℕ × Pair) (fs : List (ℕ × Pair)) → lookup (nat_eq n) (entered e fs) ≡ cond (n == e.0) (Some e.1) (lookup (nat_eq n) fs)
lookup-entered n e [] = refl
lookup-entered n e (f ∷ fs) = by (nat_le e.0 f.0) (n == e.0) (n == f.0) refl refl refl (lookup-entered n e fs)
  where
    by : (a b c : Bool) → nat_le e.0 f.0 ≡ a → (n == e.0) ≡ b → (n == f.0) ≡ c → lookup (nat_eq n) (entered e fs) ≡ cond (n == e.0) (Some e.1) (lookup (nat_eq n) fs) → lookup (nat_eq n) (entered e (f ∷ fs)) ≡ cond (n == e.0) (Some e.1) (lookup (nat_eq n) (f ∷ fs))
    by true b c x y z ih = rw x refl
    by false true true x y z ih = let w : nat_le e.0 f.0 ≡ true = grind arith in absurd (true≢false (sym w ∙ x))
    by false true false x y z ih = rw (x, z, ih, y) refl
    by false false c x y z ih = rw (x, ih, y) refl

pub lookup-in_order : (n : ℕ) (es : List (ℕ × Pair)) → lookup (nat_eq n) (in_order es) ≡ lookup (nat_eq n) es
lookup-in_order n [] = refl
lookup-in_order n (e ∷ es) = lookup-entered n e (in_order es) ∙ ap (λ o. cond (n == e.0) (Some e.1) o) (lookup-in_order n es)

-- nor the length
length-entered : (e : ℕ × Pair) (fs : List (ℕ × Pair)) → length (entered e fs) ≡ suc (length fs)
length-entered e [] = refl
length-entered e (f ∷ fs) =
    let ih = length-entered e fs in
    elim (nat_le e.0 f.0) as (λ b. length (if b then e ∷ f ∷ fs else f ∷ entered e fs) ≡ suc (suc (length fs))) [ true ↦ refl | false ↦ ap (λ l. suc l) ih ]

pub length-in_order : (es : List (ℕ × Pair)) → length (in_order es) ≡ length es
length-in_order [] = refl
length-in_order (e ∷ es) = length-entered e (in_order es) ∙ ap (λ l. suc l) (length-in_order es)

-- two entries of different numbers are entered in either order
entered-entered : (e x : ℕ × Pair) (fs : List (ℕ × Pair)) → (x.0 == e.0) ≡ false → entered e (entered x fs) ≡ entered x (entered e fs)
entered-entered e x [] h = by (nat_le e.0 x.0) (nat_le x.0 e.0) refl refl
  where
    by : (c d : Bool) → nat_le e.0 x.0 ≡ c → nat_le x.0 e.0 ≡ d → entered e (entered x []) ≡ entered x (entered e [])
    by true true u v = let w : (x.0 == e.0) ≡ true = grind arith in absurd (true≢false (sym w ∙ h))
    by true false u v = rw (u, v) refl
    by false true u v = rw (u, v) refl
    by false false u v = let w : nat_le e.0 x.0 ≡ true = grind arith in absurd (true≢false (sym w ∙ u))
entered-entered e x (f ∷ fs) h = by (nat_le e.0 f.0) (nat_le x.0 f.0) (nat_le e.0 x.0) (nat_le x.0 e.0) refl refl refl refl (entered-entered e x fs h)
  where
    by : (a b c d : Bool) → nat_le e.0 f.0 ≡ a → nat_le x.0 f.0 ≡ b → nat_le e.0 x.0 ≡ c → nat_le x.0 e.0 ≡ d → entered e (entered x fs) ≡ entered x (entered e fs) → entered e (entered x (f ∷ fs)) ≡ entered x (entered e (f ∷ fs))
    by a b true true s t u v ih = let w : (x.0 == e.0) ≡ true = grind arith in absurd (true≢false (sym w ∙ h))
    by a b false false s t u v ih = let w : nat_le e.0 x.0 ≡ true = grind arith in absurd (true≢false (sym w ∙ u))
    by true true true false s t u v ih = rw (s, t, u, v) refl
    by true true false true s t u v ih = rw (s, t, u, v, s) refl
    by true false true false s t u v ih = rw (s, t, s, v) refl
    by true false false true s t u v ih = let w : nat_le x.0 f.0 ≡ true = grind arith in absurd (true≢false (sym w ∙ t))
    by false true false true s t u v ih = rw (s, t, u, s) refl
    by false true true false s t u v ih = let w : nat_le e.0 f.0 ≡ true = grind arith in absurd (true≢false (sym w ∙ s))
    by false false true false s t u v ih = rw (s, t, s, ih) refl
    by false false false true s t u v ih = rw (s, t, s, ih) refl

-- an entry of a new number, put behind the others, is entered
pub in_order-push : (x : ℕ × Pair) (es : List (ℕ × Pair)) → lookup (nat_eq x.0) es ≡ None → in_order (es ++ x ∷ []) ≡ entered x (in_order es)
in_order-push x [] h = refl
in_order-push x (e ∷ es) h = by (x.0 == e.0) refl (in_order-push x es)
  where
    by : (b : Bool) → (x.0 == e.0) ≡ b → (lookup (nat_eq x.0) es ≡ None → in_order (es ++ x ∷ []) ≡ entered x (in_order es)) → in_order (e ∷ es ++ x ∷ []) ≡ entered x (in_order (e ∷ es))
    by true s ih = let g : Some e.1 ≡ None = sym (ap (λ b. cond b (Some e.1) (lookup (nat_eq x.0) es)) s) ∙ h in grind arith
    by false s ih =
        let g : lookup (nat_eq x.0) es ≡ None = sym (ap (λ b. cond b (Some e.1) (lookup (nat_eq x.0) es)) s) ∙ h in
        ap (entered e) (ih g) ∙ entered-entered e x (in_order es) s

pub count-in_order : (es : List (ℕ × Pair)) → length (values_of (in_order es)) ≡ length es
count-in_order es = length-values (in_order es) ∙ length-in_order es

-- who stays, stays in order
From : ℕ → List (ℕ × Pair) → Type 0
From n [] = Unit {0}
From n (e ∷ es) = (n ≤ e.0) × From n es

Ascends : List (ℕ × Pair) → Type 0
Ascends [] = Unit {0}
Ascends (e ∷ es) = From e.0 es × Ascends es

from-less : (n m : ℕ) (fs : List (ℕ × Pair)) → n ≤ m → From m fs → From n fs
unfolding From
from-less n m [] i h = tt
from-less n m (f ∷ fs) i h = let j : m ≤ f.0 = h.0 in (grind arith, from-less n m fs i h.1)

from-entered : (n : ℕ) (e : ℕ × Pair) (fs : List (ℕ × Pair)) → n ≤ e.0 → From n fs → From n (entered e fs)
unfolding From
from-entered n e [] i h = (i, tt)
from-entered n e (f ∷ fs) i h =
    let ih = from-entered n e fs i h.1 in
    elim (nat_le e.0 f.0) as (λ b. From n (if b then e ∷ f ∷ fs else f ∷ entered e fs)) [ true ↦ (i, h) | false ↦ (h.0, ih) ]

ascends-entered : (e : ℕ × Pair) (fs : List (ℕ × Pair)) → Ascends fs → Ascends (entered e fs)
unfolding From Ascends
ascends-entered e [] h = (tt, tt)
ascends-entered e (f ∷ fs) h = by (nat_le e.0 f.0) refl (ascends-entered e fs h.1)
  where
    by : (b : Bool) → nat_le e.0 f.0 ≡ b → Ascends (entered e fs) → Ascends (if b then e ∷ f ∷ fs else f ∷ entered e fs)
    by true s ih = let i : e.0 ≤ f.0 = grind arith in ((i, from-less e.0 f.0 fs i h.0), h)
    by false s ih = let i : f.0 ≤ e.0 = grind arith in (from-entered f.0 e fs i h.0, ih)

ascends-in_order : (es : List (ℕ × Pair)) → Ascends (in_order es)
unfolding Ascends
ascends-in_order [] = tt
ascends-in_order (e ∷ es) = ascends-entered e (in_order es) (ascends-in_order es)

from-filter : (t : ℕ × Pair → Bool) (n : ℕ) (fs : List (ℕ × Pair)) → From n fs → From n (filter t fs)
unfolding From
from-filter t n [] h = tt
from-filter t n (f ∷ fs) h =
    let ih = from-filter t n fs h.1 in
    elim (t f) as (λ b. From n (if b then f ∷ filter t fs else filter t fs)) [ true ↦ (h.0, ih) | false ↦ ih ]

first-entered : (e : ℕ × Pair) (fs : List (ℕ × Pair)) → From e.0 fs → entered e fs ≡ e ∷ fs
unfolding From
first-entered e [] h = refl
first-entered e (f ∷ fs) h = let i : e.0 ≤ f.0 = h.0 in let w : nat_le e.0 f.0 ≡ true = grind arith in rw w refl

filter-entered : (t : ℕ × Pair → Bool) (e : ℕ × Pair) (fs : List (ℕ × Pair)) → Ascends fs → filter t (entered e fs) ≡ (if t e then entered e (filter t fs) else filter t fs)
unfolding Ascends From
filter-entered t e [] h = refl
filter-entered t e (f ∷ fs) h = by (nat_le e.0 f.0) (t e) (t f) refl refl refl (filter-entered t e fs h.1)
  where
    by : (a b c : Bool) → nat_le e.0 f.0 ≡ a → t e ≡ b → t f ≡ c → filter t (entered e fs) ≡ (if t e then entered e (filter t fs) else filter t fs) → filter t (entered e (f ∷ fs)) ≡ (if t e then entered e (filter t (f ∷ fs)) else filter t (f ∷ fs))
    by true true c x y z ih =
        let i : e.0 ≤ f.0 = grind arith in
        let g : From e.0 (f ∷ fs) = (i, from-less e.0 f.0 fs i h.0) in
        rw (x, y) (sym (first-entered e (filter t (f ∷ fs)) (from-filter t e.0 (f ∷ fs) g)))
    by true false c x y z ih = rw (x, y) refl
    by false true true x y z ih = rw (x, y, z, ih, y, x) refl
    by false true false x y z ih = rw (x, y, z, ih, y) refl
    by false false true x y z ih = rw (x, y, z, ih, y) refl
    by false false false x y z ih = rw (x, y, z, ih, y) refl

pub filter-in_order : (t : ℕ × Pair → Bool) (es : List (ℕ × Pair)) → in_order (filter t es) ≡ filter t (in_order es)
filter-in_order t [] = refl
filter-in_order t (e ∷ es) = by (t e) refl (filter-in_order t es)
  where
    by : (b : Bool) → t e ≡ b → in_order (filter t es) ≡ filter t (in_order es) → in_order (filter t (e ∷ es)) ≡ filter t (in_order (e ∷ es))
    by true s ih = rw (s, ih) (sym (filter-entered t e (in_order es) (ascends-in_order es) ∙ rw s refl))
    by false s ih = rw (s, ih) (sym (filter-entered t e (in_order es) (ascends-in_order es) ∙ rw s refl))

-- a value is set where it stands
set-entered : (n : ℕ) (w : Pair) (e : ℕ × Pair) (fs : List (ℕ × Pair)) → set_value (nat_eq n) (entered e fs) w ≡ cond (n == e.0) (entered (e.0, w) fs) (entered e (set_value (nat_eq n) fs w))
set-entered n w e [] = elim (n == e.0) as (λ b. cond b ((e.0, w) ∷ []) (e ∷ []) ≡ cond b ((e.0, w) ∷ []) (e ∷ [])) [ true ↦ refl | false ↦ refl ]
set-entered n w e (f ∷ fs) = by (nat_le e.0 f.0) (n == e.0) (n == f.0) refl refl refl (set-entered n w e fs)
  where
    by : (a b c : Bool) → nat_le e.0 f.0 ≡ a → (n == e.0) ≡ b → (n == f.0) ≡ c → set_value (nat_eq n) (entered e fs) w ≡ cond (n == e.0) (entered (e.0, w) fs) (entered e (set_value (nat_eq n) fs w)) → set_value (nat_eq n) (entered e (f ∷ fs)) w ≡ cond (n == e.0) (entered (e.0, w) (f ∷ fs)) (entered e (set_value (nat_eq n) (f ∷ fs) w))
    by true true c x y z ih = rw (x, y) refl
    by true false true x y z ih = rw (x, y, z, x) refl
    by true false false x y z ih = rw (x, y, z, x) refl
    by false true true x y z ih = let v : nat_le e.0 f.0 ≡ true = grind arith in absurd (true≢false (sym v ∙ x))
    by false true false x y z ih = rw (x, y, z, ih, y) refl
    by false false true x y z ih = rw (x, y, z, x) refl
    by false false false x y z ih = rw (x, y, z, ih, y, x) refl

pub set-in_order : (n : ℕ) (w : Pair) (es : List (ℕ × Pair)) → in_order (set_value (nat_eq n) es w) ≡ set_value (nat_eq n) (in_order es) w
set-in_order n w [] = refl
set-in_order n w (e ∷ es) = by (n == e.0) refl (set-in_order n w es)
  where
    by : (b : Bool) → (n == e.0) ≡ b → in_order (set_value (nat_eq n) es w) ≡ set_value (nat_eq n) (in_order es) w → in_order (set_value (nat_eq n) (e ∷ es) w) ≡ set_value (nat_eq n) (in_order (e ∷ es)) w
    by true s ih = rw s (sym (set-entered n w e (in_order es) ∙ rw s refl))
    by false s ih = rw (s, ih) (sym (set-entered n w e (in_order es) ∙ rw s refl))
