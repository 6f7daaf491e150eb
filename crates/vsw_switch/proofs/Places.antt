-- The element at a place: a caller that tells a line, a port that does a job.
use Rattle.std.proofs.Common.{◌≡◌, ◌<◌, ℕ, zero, suc, ◌==◌, ◌||◌, Bool, true, false, nat_lt, if◌then◌else◌, List, [], ◌∷◌, ◌++◌, length, map, get_or, Result, Ok, Err, OnOk, refl, ap, sym, ◌∙◌, subst, arith, ne_eqb}
use Rattle.std.specs.Prelude.{⊤}
use Rattle.std.specs.List.{slice_set}
use native.Mathlib.Decide.{ℕ_discrete}
use Rattle.vsw_base.specs.declared.fault.NoMemory.{NoMemory}
use Rattle.vsw_port.specs.Calls.{Call, Job}
use Rattle.vsw_port.specs.Order.{ascending, put_in}
use Rattle.vsw_report.specs.Line.{TextLine}
use Rattle.vsw_policy.specs.Layers.{place_of}
use Rattle.vsw_policy.specs.Sound.{Each, is_listed}
use Rattle.vsw_switch.specs.Does.{Does, DoesAll, Makes, MakesAt, told_at}
use Rattle.vsw_switch.specs.Switch.{PortNow}

-- ---- a line of a caller

told_set : (xs : List (List TextLine)) (i : ℕ) (x y : List TextLine) (l : TextLine) → i < length xs → x ≡ get_or xs i x → y ≡ x ++ l ∷ [] → slice_set xs i y ≡ told_at i l xs
told_set [] i x y l lt here e = absurd (omega (arith, lt))
told_set (z ∷ zs) zero x y l lt here e = ap (λ w. w ∷ zs) (e ∙ ap (λ w. w ++ l ∷ []) here)
told_set (z ∷ zs) (suc i) x y l lt here e = ap (λ w. z ∷ w) (told_set zs i x y l (omega (arith, lt)) here e)

pub told_ok : (xs : List (List TextLine)) (i : ℕ) (x y : List TextLine) (l : TextLine) (r : Result ⊤ NoMemory) → i < length xs → x ≡ get_or xs i x → OnOk r (y ≡ x ++ l ∷ []) → OnOk r (slice_set xs i y ≡ told_at i l xs)
told_ok xs i x y l (Ok u) lt here e = told_set xs i x y l lt here e
told_ok xs i x y l (Err f) lt here e = tt

-- ---- a port

make_set : (xs : List PortNow) (i : ℕ) (x y : PortNow) (c : Call) → i < length xs → x ≡ get_or xs i x → Makes x c y → MakesAt i c xs (slice_set xs i y)
make_set [] i x y c lt here m = absurd (omega (arith, lt))
make_set (z ∷ zs) zero x y c lt here m = (subst (λ w. Makes w c y) here m, refl)
make_set (z ∷ zs) (suc i) x y c lt here m = (refl, make_set zs i x y c (omega (arith, lt)) here m)

pub does_ok : (xs : List PortNow) (i : ℕ) (x y : PortNow) (j : Job) (r : Result ⊤ NoMemory) → i < length xs → x ≡ get_or xs i x → OnOk r (Does x j y) → OnOk r (DoesAll ((i, j) ∷ []) xs (slice_set xs i y))
does_ok xs i x y j (Ok u) lt here d = record { calls = (i, d.call) ∷ []; jobs_are = ap (λ k. (i, k) ∷ []) d.job; make = (slice_set xs i y, make_set xs i x y d.call lt here d.makes, refl) }
does_ok xs i x y j (Err f) lt here d = tt

-- of a call whose count is that of the history
pub makes_ok : (xs : List PortNow) (i : ℕ) (x y : PortNow) (call : ℕ → Call) (r : Result ⊤ NoMemory) → i < length xs → x ≡ get_or xs i x → OnOk r (Makes x (call (length x.journal)) y)
    → OnOk r ((count : ℕ) × MakesAt i (call count) xs (slice_set xs i y))
makes_ok xs i x y call (Ok u) lt here m = (length x.journal, make_set xs i x y (call (length x.journal)) lt here m)
makes_ok xs i x y call (Err f) lt here m = tt

-- an element that stays as it was
pub set_here : {A : Type 0} (xs : List A) (i : ℕ) (x y : A) → x ≡ get_or xs i x → y ≡ x → slice_set xs i y ≡ xs
set_here [] i x y here e = refl
set_here (z ∷ zs) zero x y here e = ap (λ w. w ∷ zs) (e ∙ here)
set_here (z ∷ zs) (suc i) x y here e = ap (λ w. z ∷ w) (set_here zs i x y here e)

-- what the change at a place keeps
pub set_same : {A B : Type 0} (f : A → B) (xs : List A) (i : ℕ) (x y : A) → x ≡ get_or xs i x → f y ≡ f x → map f (slice_set xs i y) ≡ map f xs
set_same f [] i x y here e = refl
set_same f (z ∷ zs) zero x y here e = ap (λ w. w ∷ map f zs) (e ∙ ap f here)
set_same f (z ∷ zs) (suc i) x y here e = ap (λ w. f z ∷ w) (set_same f zs i x y here e)

-- what holds of each holds at a place
pub each_at : {A : Type 0} (P : A → Type 0) (xs : List A) (i : ℕ) (x : A) → i < length xs → x ≡ get_or xs i x → Each P xs → P x
each_at P [] i x lt here e = absurd (omega (arith, lt))
each_at P (z ∷ zs) zero x lt here e = subst P (sym here) e.0
each_at P (z ∷ zs) (suc i) x lt here e = each_at P zs i x (omega (arith, lt)) here e.1

-- ---- the place of a number

or_cases : (a b : Bool) → (a || b) ≡ true → a ≡ false → b ≡ true
or_cases true b e f = absurd (cc f)
or_cases false b e f = e

pub place_within : (ns : List ℕ) (c : ℕ) → is_listed ns c ≡ true → place_of c ns < length ns
place_within [] c l = absurd (cc l)
place_within (n ∷ ns) c l = by (c == n) refl (λ m. place_within ns c m)
  where
    by : (b : Bool) → (c == n) ≡ b → (is_listed ns c ≡ true → place_of c ns < length ns) → (if b then 0 else suc (place_of c ns)) < suc (length ns)
    by true e ih = omega arith
    by false e ih = omega (arith, ih (or_cases (c == n) (is_listed ns c) l e))

or_left : (a b : Bool) → a ≡ true → (a || b) ≡ true
or_left true b e = refl
or_left false b e = absurd (cc e)

or_right : (a b : Bool) → b ≡ true → (a || b) ≡ true
or_right true b e = refl
or_right false b e = e

or_same : (a b c : Bool) → (b ≡ true → c ≡ true) → (a || b) ≡ true → (a || c) ≡ true
or_same true b c f e = refl
or_same false b c f e = f e

put_first : (c n : ℕ) (ms : List ℕ) → (c == n) ≡ true → is_listed (put_in n ms) c ≡ true
put_first c n [] e = or_left (c == n) false e
put_first c n (m ∷ ms) e = by (nat_lt n m) (n == m) refl (put_first c n ms e)
  where
    by : (a b : Bool) → (n == m) ≡ b → is_listed (put_in n ms) c ≡ true → is_listed (if a then n ∷ m ∷ ms else if b then m ∷ ms else m ∷ put_in n ms) c ≡ true
    by true b f ih = or_left (c == n) (is_listed (m ∷ ms) c) e
    by false true f ih = or_left (c == m) (is_listed ms c) (same (ℕ_discrete n m) f)
      where
        same : Dec (n ≡ m) → (n == m) ≡ true → (c == m) ≡ true
        same (yes g) f = ap (λ k. c == k) (sym g) ∙ e
        same (no ne) f = absurd (cc (f, ne_eqb n m ne))
    by false false f ih = or_right (c == m) (is_listed (put_in n ms) c) ih

put_other : (c n : ℕ) (ms : List ℕ) → is_listed ms c ≡ true → is_listed (put_in n ms) c ≡ true
put_other c n [] e = absurd (cc e)
put_other c n (m ∷ ms) e = by (nat_lt n m) (n == m) (λ l. put_other c n ms l)
  where
    by : (a b : Bool) → (is_listed ms c ≡ true → is_listed (put_in n ms) c ≡ true) → is_listed (if a then n ∷ m ∷ ms else if b then m ∷ ms else m ∷ put_in n ms) c ≡ true
    by true b ih = or_right (c == n) (is_listed (m ∷ ms) c) e
    by false true ih = e
    by false false ih = or_same (c == m) (is_listed ms c) (is_listed (put_in n ms) c) ih e

-- a listed number stands among the ascending ones
pub ascending_listed : (ns : List ℕ) (c : ℕ) → is_listed ns c ≡ true → is_listed (ascending ns) c ≡ true
ascending_listed [] c e = absurd (cc e)
ascending_listed (n ∷ ns) c e = by (c == n) refl (λ l. ascending_listed ns c l)
  where
    by : (b : Bool) → (c == n) ≡ b → (is_listed ns c ≡ true → is_listed (ascending ns) c ≡ true) → is_listed (put_in n (ascending ns)) c ≡ true
    by true f ih = put_first c n (ascending ns) f
    by false f ih = put_other c n (ascending ns) (ih (or_cases (c == n) (is_listed ns c) e f))
