-- A job that is given to its caller.
use Rattle.std.proofs.Common.{◌≡◌, ◌<◌, ℕ, zero, suc, ◌+◌, ◌==◌, true, false, if◌then◌else◌, List, [], ◌∷◌, ◌++◌, length, map, get_or, replicate, slice_set, Vec, Result, Ok, Err, OnOk, refl, ap, ap₂, sym, ◌∙◌, subst, arith, append-nil, ne_eqb, eq-eqb}
use Rattle.std.specs.Prelude.{⊤}
use Rattle.std.proofs.lemmas.List.Elements.{filter-append}
use Rattle.vsw_actors.specs.Actors.{placed_of}
use Rattle.vsw_actors.specs.declared.actor.Placed.{Placed}
use Rattle.vsw_base.specs.declared.fault.NoMemory.{NoMemory}
use Rattle.vsw_port.specs.Calls.{job_doer}
use Rattle.vsw_port.specs.Order.{counted}
use Rattle.vsw_port.proofs.Calls.{each_append}
use Rattle.vsw_policy.specs.Sound.{Each}
use Rattle.vsw_many.specs.Dealing.{deal}
use Rattle.vsw_promise.specs.Jobs as jobs
use Rattle.vsw_actors.specs.Deal.{AreWork, dealt, shared}
use Rattle.vsw_actors.specs.Handed.{with_more}
use Rattle.vsw_actors.specs.Work.{IsWork, job_in}
use Rattle.vsw_actors.specs.declared.work.Work.{Work}

-- ---- one more job of a caller

own : (cs : List ℕ) (k : ℕ) (js : List jobs.Placed) (t : jobs.Placed) → job_doer cs t.1 ≡ k → deal cs k (js ++ t ∷ []) ≡ deal cs k js ++ t ∷ []
own cs k js t e =
    let is : (job_doer cs t.1 == k) ≡ true = eq-eqb (job_doer cs t.1) k e in
    let one : deal cs k (t ∷ []) ≡ t ∷ [] = ap (λ b. if b then t ∷ [] else []) is in
    filter-append (λ (t : jobs.Placed). job_doer cs t.1 == k) js (t ∷ []) ∙ ap (λ w. deal cs k js ++ w) one

other : (cs : List ℕ) (k : ℕ) (js : List jobs.Placed) (t : jobs.Placed) → (job_doer cs t.1 ≡ k → ⊥) → deal cs k (js ++ t ∷ []) ≡ deal cs k js
other cs k js t ne =
    let not : (job_doer cs t.1 == k) ≡ false = ne_eqb (job_doer cs t.1) k ne in
    let none : deal cs k (t ∷ []) ≡ [] = ap (λ b. if b then t ∷ [] else []) not in
    filter-append (λ (t : jobs.Placed). job_doer cs t.1 == k) js (t ∷ []) ∙ (ap (λ w. deal cs k js ++ w) none ∙ append-nil (deal cs k js))

-- callers above whose job it is
above : (cs : List ℕ) (js : List jobs.Placed) (t : jobs.Placed) (first n : ℕ) → job_doer cs t.1 < first → map (λ k. deal cs k (js ++ t ∷ [])) (counted first n) ≡ map (λ k. deal cs k js) (counted first n)
above cs js t first zero lt = refl
above cs js t first (suc n) lt = ap₂ (λ x y. x ∷ y) (other cs first js t (λ e. omega (arith, e, lt))) (above cs js t (suc first) n (omega (arith, lt)))

-- a job at the end of its caller's share is one more that is dealt
pub put_dealt : (cs : List ℕ) (js : List jobs.Placed) (t : jobs.Placed) (first n i : ℕ) → i < n → job_doer cs t.1 ≡ first + i → with_more i t (map (λ k. deal cs k js) (counted first n)) ≡ map (λ k. deal cs k (js ++ t ∷ [])) (counted first n)
put_dealt cs js t first zero i lt e = absurd (omega (arith, lt))
put_dealt cs js t first (suc n) zero lt e =
    let here : job_doer cs t.1 ≡ first = omega (arith, e) in
    ap₂ (λ x y. x ∷ y) (sym (own cs first js t here)) (sym (above cs js t (suc first) n (omega (arith, here))))
put_dealt cs js t first (suc n) (suc i) lt e = ap₂ (λ x y. x ∷ y) (sym (other cs first js t (λ f. omega (arith, e, f)))) (put_dealt cs js t (suc first) n i (omega (arith, lt)) (omega (arith, e)))

-- ---- shares

pub map_end : {A B : Type 0} (f : A → B) (xs : List A) (x : A) → map f (xs ++ x ∷ []) ≡ map f xs ++ f x ∷ []
map_end f [] x = refl
map_end f (y ∷ xs) x = ap (λ w. f y ∷ w) (map_end f xs x)

shared_set : {G : Type 0} (xs : List (Vec (Placed Work) G)) (i : ℕ) (x y : Vec (Placed Work) G) (j : Placed Work) → i < length xs → x ≡ get_or xs i x → y.items ≡ x.items ++ j ∷ [] → shared (slice_set xs i y) ≡ with_more i (placed_of job_in j) (shared xs)
shared_set {G} [] i x y j lt here e = absurd (omega (arith, lt))
shared_set {G} (z ∷ zs) zero x y j lt here e =
    let front : map (placed_of job_in) y.items ≡ map (placed_of job_in) x.items ++ placed_of job_in j ∷ [] = ap (map (placed_of job_in)) e ∙ map_end (placed_of job_in) x.items j in
    ap (λ w. w ∷ shared zs) (front ∙ ap (λ (w : Vec (Placed Work) G). map (placed_of job_in) w.items ++ placed_of job_in j ∷ []) here)
shared_set {G} (z ∷ zs) (suc i) x y j lt here e = ap (λ w. map (placed_of job_in) z.items ∷ w) (shared_set zs i x y j (omega (arith, lt)) here e)

length_shared : {G : Type 0} (xs : List (Vec (Placed Work) G)) → length (shared xs) ≡ length xs
length_shared [] = refl
length_shared (x ∷ xs) = ap suc (length_shared xs)

pub length_map_counted : {A : Type 0} (f : ℕ → A) (first n : ℕ) → length (map f (counted first n)) ≡ n
length_map_counted f first zero = refl
length_map_counted f first (suc n) = ap suc (length_map_counted f (suc first) n)

-- a job was given to whose it is
pub given : {G : Type 0} (cs : List ℕ) (js : List jobs.Placed) (xs : List (Vec (Placed Work) G)) (i : ℕ) (x y : Vec (Placed Work) G) (j : Placed Work) (r : Result ⊤ NoMemory) → i < length xs → x ≡ get_or xs i x → OnOk r (y.items ≡ x.items ++ j ∷ [])
    → shared xs ≡ dealt cs js → job_doer cs (job_in j.job) ≡ i → OnOk r (shared (slice_set xs i y) ≡ dealt cs (js ++ placed_of job_in j ∷ []))
given cs js xs i x y j (Err f) lt here e so_far doer = tt
given cs js xs i x y j (Ok u) lt here e so_far doer =
    let within : i < 16 + length cs = omega (arith, lt, length_shared xs, ap length so_far, length_map_counted (λ k. deal cs k js) 0 (16 + length cs)) in
    let at : job_doer cs (job_in j.job) ≡ 0 + i = omega (arith, doer) in
    shared_set xs i x y j lt here e ∙ (ap (with_more i (placed_of job_in j)) so_far ∙ put_dealt cs js (placed_of job_in j) 0 (16 + length cs) i within at)

-- what holds of all in each list still does with one more of which it holds
pub each_set : {A G : Type 0} (Q : A → Type 0) (xs : List (Vec A G)) (i : ℕ) (x y : Vec A G) (j : A) → x ≡ get_or xs i x → y.items ≡ x.items ++ j ∷ [] → Q j → Each (λ v. Each Q v.items) xs → Each (λ v. Each Q v.items) (slice_set xs i y)
each_set {A} {G} Q [] i x y j here e q a = tt
each_set {A} {G} Q (z ∷ zs) zero x y j here e q a =
    let before : Each Q x.items = subst (λ (v : Vec A G). Each Q v.items) (sym here) a.0 in
    (subst (Each Q) (sym e) (each_append Q x.items (j ∷ []) before (q, tt)), a.1)
each_set {A} {G} Q (z ∷ zs) (suc i) x y j here e q a = (a.0, each_set Q zs i x y j here e q a.1)

-- work was given
pub given_work : {G : Type 0} (ports : ℕ) (cs : List ℕ) (xs : List (Vec (Placed Work) G)) (i : ℕ) (x y : Vec (Placed Work) G) (j : Placed Work) (r : Result ⊤ NoMemory) → x ≡ get_or xs i x → OnOk r (y.items ≡ x.items ++ j ∷ []) → IsWork ports cs j → AreWork ports cs xs → OnOk r (AreWork ports cs (slice_set xs i y))
given_work ports cs xs i x y j (Err f) here e w a = tt
given_work ports cs xs i x y j (Ok u) here e w a = each_set (IsWork ports cs) xs i x y j here e w a

-- ---- no jobs

-- where there are no jobs, none is dealt
pub none_dealt : (cs : List ℕ) (first n : ℕ) → replicate n [] ≡ map (λ k. deal cs k []) (counted first n)
none_dealt cs first zero = refl
none_dealt cs first (suc n) = ap (λ w. [] ∷ w) (none_dealt cs (suc first) n)

pub none_work : {G : Type 0} (ports : ℕ) (cs : List ℕ) (n : ℕ) (vs : List (Vec (Placed Work) G)) → shared vs ≡ replicate n [] → AreWork ports cs vs
none_work ports cs n [] e = tt
none_work ports cs zero (v ∷ vs) e = absurd (cc e)
none_work ports cs (suc n) (v ∷ vs) e = (one v.items (cc e), none_work ports cs n vs (cc e))
  where
    one : (xs : List (Placed Work)) → map (placed_of job_in) xs ≡ [] → Each (IsWork ports cs) xs
    one [] e = tt
    one (x ∷ xs) e = absurd (cc e)
