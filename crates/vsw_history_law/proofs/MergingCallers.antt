-- One of the callers made a call.
use Rattle.std.proofs.Common.{◌≡◌, ◌≢◌, ◌<◌, ◌≤◌, ℕ, zero, suc, ◌+◌, ◌==◌, ◌||◌, Bool, true, false, nat_lt, if◌then◌else◌, List, [], ◌∷◌, ◌++◌, map, refl, ap, ap₂, sym, ◌∙◌, subst, arith, ne_eqb, eq-eqb, append-nil}
use Rattle.std.proofs.lemmas.Grind.{common_steps, flat_map-append}
use Rattle.std.specs.List.{flat_map}
use native.Mathlib.Decide.{ℕ_discrete}
use Rattle.vsw_policy.specs.Layers.{place_of}
use Rattle.vsw_policy.specs.Sound.{Each, is_listed}
use Rattle.vsw_port.specs.Calls.{Call, Deed, Carried, Asked, controller_at, doer, calls_of}
use Rattle.vsw_port.specs.Order.{put_in, ascending, counted}
use Rattle.vsw_promise.specs.Told.{callers}
use Rattle.vsw_history_law.specs.MergingLaw.{IsKnown, callers_of}

-- ---- numbers

lt_true : (m n : ℕ) → nat_lt m n ≡ true → m < n
lt_true m n h = grind (arith, common_steps)

lt_false : (m n : ℕ) → nat_lt m n ≡ false → n ≤ m
lt_false m n h = grind (arith, common_steps)

eqb_is : (a b : ℕ) → (a == b) ≡ true → a ≡ b
eqb_is a b e = by (ℕ_discrete a b)
  where
    by : Dec (a ≡ b) → a ≡ b
    by (yes f) = f
    by (no ne) = absurd (let t = ne_eqb a b ne in cc (e, t))

eqb_not : (a b : ℕ) → (a == b) ≡ false → a ≢ b
eqb_not a b e f = absurd (let t = eq-eqb a b f in cc (e, t))

-- from low on the numbers ascend
abbrev Ascends : ℕ → List ℕ → Type 0
Ascends low [] = Unit {0}
Ascends low (m ∷ ms) = (low ≤ m) × Ascends (suc m) ms

abbrev put_by : Bool → Bool → ℕ → ℕ → List ℕ → List ℕ
put_by b c n m ms = if b then n ∷ m ∷ ms else if c then m ∷ ms else m ∷ put_in n ms

put_ascends : (low n : ℕ) (ms : List ℕ) → low ≤ n → Ascends low ms → Ascends low (put_in n ms)
put_ascends low n [] le a = (le, tt)
put_ascends low n (m ∷ ms) le a = by (nat_lt n m) (n == m) refl refl (λ lt. put_ascends (suc m) n ms lt a.1)
  where
    by : (b c : Bool) → nat_lt n m ≡ b → (n == m) ≡ c → (m < n → Ascends (suc m) (put_in n ms)) → Ascends low (put_by b c n m ms)
    by true c t e ih = (le, (omega (arith, lt_true n m t), a.1))
    by false true t e ih = a
    by false false t e ih = (a.0, ih (omega (arith, lt_false n m t, eqb_not n m e)))

ascending_ascends : (ns : List ℕ) → Ascends 0 (ascending ns)
ascending_ascends [] = tt
ascending_ascends (n ∷ ns) = put_ascends 0 n (ascending ns) (omega arith) (ascending_ascends ns)

-- ---- what one caller has, taken together over all

-- nothing is there but at one number
abbrev Only : {A : Type 0} → ℕ → (ℕ → List A) → Type 0
Only k f = (j : ℕ) → j ≢ k → f j ≡ []

above : {A : Type 0} (f : ℕ → List A) (k low : ℕ) (ms : List ℕ) → Only k f → k < low → Ascends low ms → flat_map f ms ≡ []
above f k low [] only lt a = refl
above f k low (m ∷ ms) only lt a = ap₂ (λ x y. x ++ y) (only m (λ e. omega (arith, e, lt, a.0))) (above f k (suc m) ms only (omega (arith, lt, a.0)) a.1)

-- put among ascending numbers, the number has all
put_only : {A : Type 0} (f : ℕ → List A) (k low : ℕ) (ms : List ℕ) → Only k f → Ascends low ms → flat_map f (put_in k ms) ≡ f k
put_only f k low [] only a = append-nil (f k)
put_only f k low (m ∷ ms) only a = by (nat_lt k m) (k == m) refl refl (put_only f k (suc m) ms only a.1)
  where
    by : (b c : Bool) → nat_lt k m ≡ b → (k == m) ≡ c → flat_map f (put_in k ms) ≡ f k → flat_map f (put_by b c k m ms) ≡ f k
    by true c t e ih = ap (λ r. f k ++ r) (above f k m (m ∷ ms) only (lt_true k m t) (omega arith, a.1)) ∙ append-nil (f k)
    by false true t e ih = let same = eqb_is k m e in ap₂ (λ x y. x ++ y) (ap f (sym same)) (above f k (suc m) ms only (omega (arith, same)) a.1) ∙ append-nil (f k)
    by false false t e ih = ap₂ (λ x y. x ++ y) (only m (λ g. eqb_not k m e (sym g))) ih

-- another number changes nothing
put_other : {A : Type 0} (f : ℕ → List A) (n : ℕ) (ms : List ℕ) → f n ≡ [] → flat_map f (put_in n ms) ≡ flat_map f ms
put_other f n [] none = append-nil (f n) ∙ none
put_other f n (m ∷ ms) none = by (nat_lt n m) (n == m) (put_other f n ms none)
  where
    by : (b c : Bool) → flat_map f (put_in n ms) ≡ flat_map f ms → flat_map f (put_by b c n m ms) ≡ flat_map f (m ∷ ms)
    by true c ih = ap (λ r. r ++ flat_map f (m ∷ ms)) none
    by false true ih = refl
    by false false ih = ap (λ r. f m ++ r) ih

or_right : (a b : Bool) → (a || b) ≡ true → a ≡ false → b ≡ true
or_right true b e f = absurd (cc f)
or_right false b e f = e

-- a listed number stands once among the ascending ones
listed_only : {A : Type 0} (f : ℕ → List A) (ns : List ℕ) (c : ℕ) → is_listed ns c ≡ true → Only c f → flat_map f (ascending ns) ≡ f c
listed_only f [] c e only = absurd (cc e)
listed_only f (n ∷ ns) c e only = by (ℕ_discrete c n) (λ ne. listed_only f ns c (or_right (c == n) (is_listed ns c) e (ne_eqb c n ne)) only)
  where
    by : Dec (c ≡ n) → (c ≢ n → flat_map f (ascending ns) ≡ f c) → flat_map f (put_in n (ascending ns)) ≡ f c
    by (yes g) ih = subst (λ m. flat_map f (put_in m (ascending ns)) ≡ f c) g (put_only f c 0 (ascending ns) only (ascending_ascends ns))
    by (no ne) ih = put_other f n (ascending ns) (only n (λ g. ne (sym g))) ∙ ih ne

-- controllers at one place are one
place_one : (ns : List ℕ) (c d : ℕ) → is_listed ns c ≡ true → place_of c ns ≡ place_of d ns → c ≡ d
place_one [] c d l e = absurd (cc l)
place_one (n ∷ ns) c d l e = by (c == n) (d == n) refl refl e (λ l f. place_one ns c d l f)
  where
    by : (a b : Bool) → (c == n) ≡ a → (d == n) ≡ b → (if a then 0 else suc (place_of c ns)) ≡ (if b then 0 else suc (place_of d ns)) → (is_listed ns c ≡ true → place_of c ns ≡ place_of d ns → c ≡ d) → c ≡ d
    by true true p q e ih = eqb_is c n p ∙ sym (eqb_is d n q)
    by true false p q e ih = absurd (omega (arith, e))
    by false true p q e ih = absurd (omega (arith, e))
    by false false p q e ih = ih (or_right (c == n) (is_listed ns c) l p) (omega (arith, e))

-- workers
none_counted : {A : Type 0} (f : ℕ → List A) (k first m : ℕ) → Only k f → first + m ≤ k → flat_map f (counted first m) ≡ []
none_counted f k first zero only le = refl
none_counted f k first (suc m) only le = ap₂ (λ x y. x ++ y) (only first (λ e. omega (arith, e, le))) (none_counted f k (suc first) m only (omega (arith, le)))

past_counted : {A : Type 0} (f : ℕ → List A) (k first m : ℕ) → Only k f → k < first → flat_map f (counted first m) ≡ []
past_counted f k first zero only lt = refl
past_counted f k first (suc m) only lt = ap₂ (λ x y. x ++ y) (only first (λ e. omega (arith, e, lt))) (past_counted f k (suc first) m only (omega (arith, lt)))

one_counted : {A : Type 0} (f : ℕ → List A) (k first m : ℕ) → Only k f → first ≤ k → k < first + m → flat_map f (counted first m) ≡ f k
one_counted f k first zero only le lt = absurd (omega (arith, le, lt))
one_counted f k first (suc m) only le lt = by (ℕ_discrete first k) (λ ne. one_counted f k (suc first) m only (omega (arith, le, ne)) (omega (arith, lt)))
  where
    by : Dec (first ≡ k) → (first ≢ k → flat_map f (counted (suc first) m) ≡ f k) → flat_map f (counted first (suc m)) ≡ f k
    by (yes e) ih = ap₂ (λ x y. x ++ y) (ap f e) (past_counted f k (suc first) m only (omega (arith, e))) ∙ append-nil (f k)
    by (no ne) ih = ap₂ (λ x y. x ++ y) (only first ne) (ih ne)

-- controllers
no_controller : {A : Type 0} (f : ℕ → List A) (k : ℕ) (ns js : List ℕ) → Only k f → k < 16 → flat_map f (map (controller_at ns) js) ≡ []
no_controller f k ns [] only lt = refl
no_controller f k ns (j ∷ js) only lt = ap₂ (λ x y. x ++ y) (only (controller_at ns j) (λ e. omega (arith, e, lt))) (no_controller f k ns js only lt)

over_map : {A : Type 0} (f : ℕ → List A) (g : ℕ → ℕ) (js : List ℕ) → flat_map f (map g js) ≡ flat_map (λ j. f (g j)) js
over_map f g [] = refl
over_map f g (j ∷ js) = ap (λ r. f (g j) ++ r) (over_map f g js)

one_controller : {A : Type 0} (f : ℕ → List A) (ns : List ℕ) (c : ℕ) → is_listed ns c ≡ true → Only (controller_at ns c) f → flat_map f (map (controller_at ns) (ascending ns)) ≡ f (controller_at ns c)
one_controller f ns c l only =
    over_map f (controller_at ns) (ascending ns)
    ∙ listed_only (λ j. f (controller_at ns j)) ns c l (λ j ne. only (controller_at ns j) (λ e. ne (sym (place_one ns c j l (omega (arith, e))))))

-- who made a known call stands once among the callers
pub one_doer : {A : Type 0} (f : ℕ → List A) (ns : List ℕ) (workers : ℕ) (d : Deed) → workers ≤ 16 → IsKnown workers ns d → Only (doer ns d) f → flat_map f (callers_of ns workers) ≡ f (doer ns d)
one_doer f ns workers (Carried x p fate bytes) le known only =
    flat_map-append f (counted 0 workers) (map (controller_at ns) (ascending ns))
    ∙ (ap₂ (λ a b. a ++ b) (one_counted f x.caller 0 workers only (omega arith) (omega (arith, known))) (no_controller f x.caller ns (ascending ns) only (omega (arith, known, le)))
    ∙ append-nil (f x.caller))
one_doer f ns workers (Asked l reply) le known only =
    flat_map-append f (counted 0 workers) (map (controller_at ns) (ascending ns))
    ∙ ap₂ (λ a b. a ++ b) (none_counted f (controller_at ns l.controller) 0 workers only (omega (arith, le))) (one_controller f ns l.controller known only)

-- ---- the workers beyond

none_from : {A : Type 0} (f : ℕ → List A) (first n : ℕ) → ((k : ℕ) → first ≤ k → k < first + n → f k ≡ []) → flat_map f (counted first n) ≡ []
none_from f first zero none = refl
none_from f first (suc n) none = ap₂ (λ x y. x ++ y) (none first (omega arith) (omega arith)) (none_from f (suc first) n (λ k le lt. none k (omega (arith, le)) (omega (arith, lt))))

fewer : {A : Type 0} (f : ℕ → List A) (first m n : ℕ) → m ≤ n → ((k : ℕ) → first + m ≤ k → k < first + n → f k ≡ []) → flat_map f (counted first n) ≡ flat_map f (counted first m)
fewer f first zero n le none = none_from f first n (λ k low lt. none k (omega (arith, low)) lt)
fewer f first (suc m) zero le none = absurd (omega (arith, le))
fewer f first (suc m) (suc n) le none = ap (λ r. f first ++ r) (fewer f (suc first) m n (omega (arith, le)) (λ k low lt. none k (omega (arith, low)) (omega (arith, lt))))

-- of workers that aren't there nothing is told
pub workers_only : {A : Type 0} (f : ℕ → List A) (ns : List ℕ) (workers : ℕ) → workers ≤ 16 → ((k : ℕ) → workers ≤ k → k < 16 → f k ≡ []) → flat_map f (callers_of ns workers) ≡ flat_map f (callers ns)
workers_only f ns workers le none =
    let cs = map (controller_at ns) (ascending ns) in
    flat_map-append f (counted 0 workers) cs
    ∙ (ap (λ r. r ++ flat_map f cs) (sym (fewer f 0 workers 16 le (λ k low lt. none k (omega (arith, low)) (omega (arith, lt)))))
    ∙ sym (flat_map-append f (counted 0 16) cs))

-- workers that aren't there made no calls
pub no_calls : (ns : List ℕ) (workers k : ℕ) (cs : List Call) → workers ≤ k → k < 16 → Each (λ c. IsKnown workers ns c.deed) cs → calls_of ns k cs ≡ []
no_calls ns workers k [] le lt e = refl
no_calls ns workers k (c ∷ cs) le lt e = by (doer ns c.deed == k) refl (no_calls ns workers k cs le lt e.1)
  where
    apart : (d : Deed) → IsKnown workers ns d → doer ns d ≢ k
    apart (Carried x p fate bytes) known f = omega (arith, known, f, le)
    apart (Asked l reply) known f = omega (arith, f, lt)

    by : (b : Bool) → (doer ns c.deed == k) ≡ b → calls_of ns k cs ≡ [] → (if b then c ∷ calls_of ns k cs else calls_of ns k cs) ≡ []
    by true t ih = absurd (apart c.deed e.0 (eqb_is (doer ns c.deed) k t))
    by false t ih = ih
