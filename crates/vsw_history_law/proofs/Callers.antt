-- Each worker and each controller stands once among the callers.
use Rattle.std.proofs.Common.{◌≡◌, ◌≢◌, ◌<◌, ◌≤◌, ℕ, zero, suc, ◌+◌, ◌==◌, ◌||◌, Bool, true, false, nat_lt, if◌then◌else◌, List, [], ◌∷◌, ◌++◌, map, refl, ap, sym, ◌∙◌, subst, arith, append_assoc, ne_eqb, eq-eqb}
use Rattle.std.proofs.lemmas.Grind.{common_steps}
use native.Mathlib.Decide.{ℕ_discrete}
use Rattle.vsw_policy.specs.Layers.{place_of}
use Rattle.vsw_policy.specs.Sound.{Each, is_listed}
use Rattle.vsw_port.specs.Calls.{controller_at}
use Rattle.vsw_port.specs.Order.{put_in, ascending, counted, StandsOnce}
use Rattle.vsw_promise.specs.Told.{callers}
use Rattle.vsw_port.proofs.Calls.{each_append}

once_front : (k : ℕ) (xs ys : List ℕ) → StandsOnce k xs → Each (λ j. j ≢ k) ys → StandsOnce k (xs ++ ys)
once_front k xs ys s e = record { front = s.front; back = s.back ++ ys; is = ap (λ w. w ++ ys) s.is ∙ append_assoc s.front (k ∷ s.back) ys; not_front = s.not_front; not_back = each_append (λ j. j ≢ k) s.back ys s.not_back e }

once_back : (k : ℕ) (xs ys : List ℕ) → Each (λ j. j ≢ k) xs → StandsOnce k ys → StandsOnce k (xs ++ ys)
once_back k xs ys e s = record { front = xs ++ s.front; back = s.back; is = ap (λ w. xs ++ w) s.is ∙ sym (append_assoc xs s.front (k ∷ s.back)); not_front = each_append (λ j. j ≢ k) xs s.front e s.not_front; not_back = s.not_back }

once_next : (k n : ℕ) (xs : List ℕ) → n ≢ k → StandsOnce k xs → StandsOnce k (n ∷ xs)
once_next k n xs ne s = once_back k (n ∷ []) xs (ne, tt) s

counted_above : (k first m : ℕ) → k < first → Each (λ j. j ≢ k) (counted first m)
counted_above k first zero lt = tt
counted_above k first (suc m) lt = ((λ e. omega (arith, e, lt)), counted_above k (suc first) m (omega (arith, lt)))

counted_below : (k first m : ℕ) → first + m ≤ k → Each (λ j. j ≢ k) (counted first m)
counted_below k first zero le = tt
counted_below k first (suc m) le = ((λ e. omega (arith, e, le)), counted_below k (suc first) m (omega (arith, le)))

counted_once : (k first m : ℕ) → first ≤ k → k < first + m → StandsOnce k (counted first m)
counted_once k first zero le lt = absurd (omega (arith, le, lt))
counted_once k first (suc m) le lt = by (ℕ_discrete first k) (λ ne. counted_once k (suc first) m (omega (arith, le, ne)) (omega (arith, lt)))
  where
    by : Dec (first ≡ k) → (first ≢ k → StandsOnce k (counted (suc first) m)) → StandsOnce k (counted first (suc m))
    by (yes e) rest = record { front = []; back = counted (suc first) m; is = ap (λ w. w ∷ counted (suc first) m) e; not_front = tt; not_back = counted_above k (suc first) m (omega (arith, e)) }
    by (no ne) rest = once_next k first (counted (suc first) m) ne (rest ne)

controllers_high : (k : ℕ) (ns js : List ℕ) → k < 16 → Each (λ j. j ≢ k) (map (controller_at ns) js)
controllers_high k ns [] lt = tt
controllers_high k ns (j ∷ js) lt = ((λ e. omega (arith, e, lt)), controllers_high k ns js lt)

pub worker_once : (ns : List ℕ) (k : ℕ) → k < 16 → StandsOnce k (callers ns)
worker_once ns k lt = once_front k (counted 0 16) (map (controller_at ns) (ascending ns)) (counted_once k 0 16 (omega arith) (omega (arith, lt))) (controllers_high k ns (ascending ns) lt)

-- ---- controllers

abbrev pub Ascends : ℕ → List ℕ → Type 0
Ascends low [] = Unit {0}
Ascends low (m ∷ ms) = (low ≤ m) × Ascends (suc m) ms

ascends_lower : (low mid : ℕ) (ms : List ℕ) → low ≤ mid → Ascends mid ms → Ascends low ms
ascends_lower low mid [] le a = tt
ascends_lower low mid (m ∷ ms) le a = (omega (arith, le, a.0), a.1)

ascends_apart : (n low : ℕ) (ms : List ℕ) → n < low → Ascends low ms → Each (λ j. j ≢ n) ms
ascends_apart n low [] lt a = tt
ascends_apart n low (m ∷ ms) lt a = ((λ e. omega (arith, e, lt, a.0)), ascends_apart n (suc m) ms (omega (arith, lt, a.0)) a.1)

lt_true : (m n : ℕ) → nat_lt m n ≡ true → m < n
lt_true m n h = grind (arith, common_steps)

true_lt : (m n : ℕ) → m < n → nat_lt m n ≡ true
true_lt m n h = grind (arith, common_steps)

lt_false : (m n : ℕ) → nat_lt m n ≡ false → n ≤ m
lt_false m n h = grind (arith, common_steps)

pub eqb_is : (a b : ℕ) → (a == b) ≡ true → a ≡ b
eqb_is a b e = by (ℕ_discrete a b)
  where
    by : Dec (a ≡ b) → a ≡ b
    by (yes f) = f
    by (no ne) = absurd (cc (e, ne_eqb a b ne))

eqb_not : (a b : ℕ) → (a == b) ≡ false → a ≢ b
eqb_not a b e f = absurd (cc (e, eq-eqb a b f))

abbrev put_by : Bool → Bool → ℕ → ℕ → List ℕ → List ℕ
put_by b c n m ms = if b then n ∷ m ∷ ms else if c then m ∷ ms else m ∷ put_in n ms

put_ascends : (low n : ℕ) (ms : List ℕ) → low ≤ n → Ascends low ms → Ascends low (put_in n ms)
put_ascends low n [] le a = (le, tt)
put_ascends low n (m ∷ ms) le a = by (nat_lt n m) (n == m) refl refl (λ lt. put_ascends (suc m) n ms lt a.1)
  where
    by : (b c : Bool) → nat_lt n m ≡ b → (n == m) ≡ c → (m < n → Ascends (suc m) (put_in n ms)) → Ascends low (put_by b c n m ms)
    by true c t e ih = (le, (omega (arith, lt_true n m t), a.1))
    by false true t e ih = a
    by false false t e ih = (a.0, ih (omega (arith, lt_false n m t, eqb_not n m e)))

put_once : (low n : ℕ) (ms : List ℕ) → Ascends low ms → StandsOnce n (put_in n ms)
put_once low n [] a = record { front = []; back = []; is = refl; not_front = tt; not_back = tt }
put_once low n (m ∷ ms) a = by (nat_lt n m) (n == m) refl refl (put_once (suc m) n ms a.1)
  where
    by : (b c : Bool) → nat_lt n m ≡ b → (n == m) ≡ c → StandsOnce n (put_in n ms) → StandsOnce n (put_by b c n m ms)
    by true c t e ih = record { front = []; back = m ∷ ms; is = refl; not_front = tt; not_back = ascends_apart n m (m ∷ ms) (lt_true n m t) (omega arith, a.1) }
    by false true t e ih = let same = eqb_is n m e in record { front = []; back = ms; is = ap (λ w. w ∷ ms) (sym same); not_front = tt; not_back = ascends_apart n (suc m) ms (omega (arith, same)) a.1 }
    by false false t e ih = once_next n m (put_in n ms) (λ f. eqb_not n m e (sym f)) ih

-- another number put in changes nothing of it
put_other : (k n : ℕ) (ms : List ℕ) → n ≢ k → StandsOnce k ms → StandsOnce k (put_in n ms)
put_other k n [] ne s = absurd (none s.front s.is)
  where
    none : (front : List ℕ) → [] ≡ front ++ k ∷ s.back → ⊥
    none [] e = cc e
    none (x ∷ front) e = cc e
put_other k n (m ∷ ms) ne s = by (nat_lt n m) (n == m) (ℕ_discrete m k) (λ mk. put_other k n ms ne (rest s.front s.is s.not_front mk))
  where
    rest : (front : List ℕ) → m ∷ ms ≡ front ++ k ∷ s.back → Each (λ j. j ≢ k) front → m ≢ k → StandsOnce k ms
    rest [] e nf mk = absurd (mk (cc e))
    rest (x ∷ front) e nf mk = record { front = front; back = s.back; is = cc e; not_front = nf.1; not_back = s.not_back }

    first : (front : List ℕ) → m ∷ ms ≡ front ++ k ∷ s.back → Each (λ j. j ≢ k) front → m ≡ k → Each (λ j. j ≢ k) ms
    first [] e nf mk = subst (Each (λ j. j ≢ k)) (cc e) s.not_back
    first (x ∷ front) e nf mk = absurd (nf.0 (cc (e, mk)))

    each_put : (ms : List ℕ) → Each (λ j. j ≢ k) ms → Each (λ j. j ≢ k) (put_in n ms)
    each_put [] e = (ne, tt)
    each_put (j ∷ js) e = in_by (nat_lt n j) (n == j) (each_put js e.1)
      where
        in_by : (b c : Bool) → Each (λ j. j ≢ k) (put_in n js) → Each (λ j. j ≢ k) (put_by b c n j js)
        in_by true c ih = (ne, e)
        in_by false true ih = e
        in_by false false ih = (e.0, ih)

    by : (b c : Bool) → Dec (m ≡ k) → (m ≢ k → StandsOnce k (put_in n ms)) → StandsOnce k (put_by b c n m ms)
    by true c d ih = once_next k n (m ∷ ms) ne s
    by false true d ih = s
    by false false (yes e) ih = record { front = []; back = put_in n ms; is = ap (λ w. w ∷ put_in n ms) e; not_front = tt; not_back = each_put ms (first s.front s.is s.not_front e) }
    by false false (no mk) ih = once_next k m (put_in n ms) mk (ih mk)

pub ascending_ascends : (ns : List ℕ) → Ascends 0 (ascending ns)
ascending_ascends [] = tt
ascending_ascends (n ∷ ns) = put_ascends 0 n (ascending ns) (omega arith) (ascending_ascends ns)

or_cases : (a b : Bool) → (a || b) ≡ true → a ≡ false → b ≡ true
or_cases true b e f = absurd (cc f)
or_cases false b e f = e

-- a listed number stands once among the ascending ones
pub ascending_once : (ns : List ℕ) (c : ℕ) → is_listed ns c ≡ true → StandsOnce c (ascending ns)
ascending_once [] c e = absurd (cc e)
ascending_once (n ∷ ns) c e = by (ℕ_discrete c n) (λ ne. ascending_once ns c (or_cases (c == n) (is_listed ns c) e (ne_eqb c n ne)))
  where
    by : Dec (c ≡ n) → (c ≢ n → StandsOnce c (ascending ns)) → StandsOnce c (put_in n (ascending ns))
    by (yes f) ih = subst (λ w. StandsOnce w (put_in n (ascending ns))) (sym f) (put_once 0 n (ascending ns) (ascending_ascends ns))
    by (no ne) ih = put_other c n (ascending ns) (λ f. ne (sym f)) (ih ne)

-- controllers at one place are one
pub place_one : (ns : List ℕ) (c d : ℕ) → is_listed ns c ≡ true → place_of c ns ≡ place_of d ns → c ≡ d
place_one [] c d l e = absurd (cc l)
place_one (n ∷ ns) c d l e = by (c == n) (d == n) refl refl e (λ l f. place_one ns c d l f)
  where
    by : (a b : Bool) → (c == n) ≡ a → (d == n) ≡ b → (if a then 0 else suc (place_of c ns)) ≡ (if b then 0 else suc (place_of d ns)) → (is_listed ns c ≡ true → place_of c ns ≡ place_of d ns → c ≡ d) → c ≡ d
    by true true p q e ih = eqb_is c n p ∙ sym (eqb_is d n q)
    by true false p q e ih = absurd (omega (arith, e))
    by false true p q e ih = absurd (omega (arith, e))
    by false false p q e ih = ih (or_cases (c == n) (is_listed ns c) l p) (omega (arith, e))

controllers_apart : (ns : List ℕ) (c : ℕ) (js : List ℕ) → is_listed ns c ≡ true → Each (λ j. j ≢ c) js → Each (λ j. j ≢ controller_at ns c) (map (controller_at ns) js)
controllers_apart ns c [] l e = tt
controllers_apart ns c (j ∷ js) l e = ((λ f. e.0 (sym (place_one ns c j l (omega (arith, f))))), controllers_apart ns c js l e.1)

map_append : (f : ℕ → ℕ) (xs ys : List ℕ) → map f (xs ++ ys) ≡ map f xs ++ map f ys
map_append f [] ys = refl
map_append f (x ∷ xs) ys = ap (λ w. f x ∷ w) (map_append f xs ys)

pub controller_once : (ns : List ℕ) (c : ℕ) → is_listed ns c ≡ true → StandsOnce (controller_at ns c) (callers ns)
controller_once ns c l =
    let s = ascending_once ns c l in
    once_back (controller_at ns c) (counted 0 16) (map (controller_at ns) (ascending ns)) (counted_below (controller_at ns c) 0 16 (omega arith)) (record {
      front = map (controller_at ns) s.front;
      back = map (controller_at ns) s.back;
      is = ap (map (controller_at ns)) s.is ∙ map_append (controller_at ns) s.front (c ∷ s.back);
      not_front = controllers_apart ns c s.front l s.not_front;
      not_back = controllers_apart ns c s.back l s.not_back;
    })

-- ascending numbers are their own order
pub ascending_is : (low : ℕ) (ms : List ℕ) → Ascends low ms → ascending ms ≡ ms
ascending_is low [] a = refl
ascending_is low (m ∷ ms) a = ap (put_in m) (ascending_is (suc m) ms a.1) ∙ front ms a.1
  where
    front : (ms : List ℕ) → Ascends (suc m) ms → put_in m ms ≡ m ∷ ms
    front [] a = refl
    front (k ∷ ks) a = let t : nat_lt m k ≡ true = true_lt m k (omega (arith, a.0)) in rw t refl
