-- The lines of each caller are those of its calls.
use Rattle.std.proofs.Common.{◌≡◌, ◌≢◌, ◌<◌, ◌≤◌, ℕ, zero, suc, ◌+◌, ◌==◌, Bool, true, false, List, [], ◌∷◌, ◌++◌, length, map, refl, ap, ap₂, sym, ◌∙◌, subst, arith, eq-eqb, ne_eqb, append-nil}
use Rattle.std.proofs.lemmas.List.{length-map}
use Rattle.vsw_port.specs.Calls.{Call, Deed, Carried, Asked, calls_of, controller_at, doer}
use Rattle.vsw_port.specs.Order.{ascending, counted, StandsOnce}
use Rattle.vsw_port.proofs.Calls.{calls_append}
use Rattle.vsw_history_law.proofs.Callers.{ascending_once, place_one}
use Rattle.vsw_report.specs.Line.{TextLine, text_of}
use Rattle.vsw_policy.specs.Layers.{place_of}
use Rattle.vsw_policy.specs.Sound.{Each, is_listed}
use Rattle.vsw_promise.specs.Told.{by_of, line_of}
use Rattle.vsw_history_law.specs.MergingLaw.{IsKnown}
use Rattle.vsw_switch.specs.Does.{told_at, told_workers, told_controllers}

-- the line of a call
abbrev pub text : Call → TextLine
text c = text_of (line_of c)

-- the lines of these callers
abbrev pub texts : List ℕ → List Call → List ℕ → List (List TextLine)
texts cs calls ks = map (λ k. map text (calls_of cs k calls)) ks

pub map_append : {A B : Type 0} (f : A → B) (xs ys : List A) → map f (xs ++ ys) ≡ map f xs ++ map f ys
map_append f [] ys = refl
map_append f (x ∷ xs) ys = ap (λ w. f x ∷ w) (map_append f xs ys)

-- ---- one more call

own_line : (cs : List ℕ) (calls : List Call) (c : Call) (k : ℕ) → doer cs c.deed ≡ k → map text (calls_of cs k (calls ++ c ∷ [])) ≡ map text (calls_of cs k calls) ++ text c ∷ []
own_line cs calls c k e = ap (map text) (calls_append cs k calls (c ∷ [])) ∙ (map_append text (calls_of cs k calls) (calls_of cs k (c ∷ [])) ∙ ap (λ w. map text (calls_of cs k calls) ++ w) (one (eq-eqb (doer cs c.deed) k e)))
  where
    one : (doer cs c.deed == k) ≡ true → map text (calls_of cs k (c ∷ [])) ≡ text c ∷ []
    one t = rw t refl

other_line : (cs : List ℕ) (calls : List Call) (c : Call) (k : ℕ) → doer cs c.deed ≢ k → map text (calls_of cs k (calls ++ c ∷ [])) ≡ map text (calls_of cs k calls)
other_line cs calls c k ne = ap (map text) (calls_append cs k calls (c ∷ [])) ∙ (map_append text (calls_of cs k calls) (calls_of cs k (c ∷ [])) ∙ (ap (λ w. map text (calls_of cs k calls) ++ w) (none (ne_eqb (doer cs c.deed) k ne)) ∙ append-nil (map text (calls_of cs k calls))))
  where
    none : (doer cs c.deed == k) ≡ false → map text (calls_of cs k (c ∷ [])) ≡ []
    none t = rw t refl

-- callers none of whom made it
others_same : (cs : List ℕ) (calls : List Call) (c : Call) (ks : List ℕ) → Each (λ k. k ≢ doer cs c.deed) ks → texts cs calls ks ≡ texts cs (calls ++ c ∷ []) ks
others_same cs calls c [] e = refl
others_same cs calls c (k ∷ ks) e = ap₂ (λ x y. x ∷ y) (sym (other_line cs calls c k (λ f. e.0 (sym f)))) (others_same cs calls c ks e.1)

front_at : (cs : List ℕ) (calls : List Call) (c : Call) (front back : List ℕ) → Each (λ k. k ≢ doer cs c.deed) front → Each (λ k. k ≢ doer cs c.deed) back
    → told_at (length front) (text c) (texts cs calls (front ++ doer cs c.deed ∷ back)) ≡ texts cs (calls ++ c ∷ []) (front ++ doer cs c.deed ∷ back)
front_at cs calls c [] back e f = ap₂ (λ x y. x ∷ y) (sym (own_line cs calls c (doer cs c.deed) refl)) (others_same cs calls c back f)
front_at cs calls c (k ∷ front) back e f = ap₂ (λ x y. x ∷ y) (sym (other_line cs calls c k (λ g. e.0 (sym g)))) (front_at cs calls c front back e.1 f)

-- the caller who made it stands once among these
told_once : (cs : List ℕ) (calls : List Call) (c : Call) (ks : List ℕ) (s : StandsOnce (doer cs c.deed) ks) → told_at (length s.front) (text c) (texts cs calls ks) ≡ texts cs (calls ++ c ∷ []) ks
told_once cs calls c ks s = subst (λ w. told_at (length s.front) (text c) (texts cs calls w) ≡ texts cs (calls ++ c ∷ []) w) (sym s.is) (front_at cs calls c s.front s.back s.not_front s.not_back)

-- ---- workers

above : (k first n : ℕ) → k < first → Each (λ j. j ≢ k) (counted first n)
above k first zero lt = tt
above k first (suc n) lt = ((λ e. omega (arith, e, lt)), above k (suc first) n (omega (arith, lt)))

below : (k first n : ℕ) → first + n ≤ k → Each (λ j. j ≢ k) (counted first n)
below k first zero le = tt
below k first (suc n) le = ((λ e. omega (arith, e, le)), below k (suc first) n (omega (arith, le)))

-- the worker at its place
record WorkerAt (k first n d : ℕ) : Type 0 where
  once : StandsOnce k (counted first n)
  place : length once.front ≡ d

worker_at : (k first n d : ℕ) → first + d ≡ k → d < n → WorkerAt k first n d
worker_at k first zero d e lt = absurd (omega (arith, lt))
worker_at k first (suc n) zero e lt =
    let here : first ≡ k = omega (arith, e) in
    record { once = record { front = []; back = counted (suc first) n; is = ap (λ w. w ∷ counted (suc first) n) here; not_front = tt; not_back = above k (suc first) n (omega (arith, here)) }; place = refl }
worker_at k first (suc n) (suc d) e lt =
    let rest = worker_at k (suc first) n d (omega (arith, e)) (omega (arith, lt)) in
    record {
      once = record { front = first ∷ rest.once.front; back = rest.once.back; is = ap (λ w. first ∷ w) rest.once.is; not_front = ((λ f. omega (arith, e, f)), rest.once.not_front); not_back = rest.once.not_back };
      place = ap suc rest.place;
    }

-- ---- controllers

high : (k : ℕ) (cs ns : List ℕ) → k < 16 → Each (λ j. j ≢ k) (map (controller_at cs) ns)
high k cs [] lt = tt
high k cs (n ∷ ns) lt = ((λ e. omega (arith, e, lt)), high k cs ns lt)

apart : (cs : List ℕ) (c : ℕ) (ns : List ℕ) → is_listed cs c ≡ true → Each (λ n. n ≢ c) ns → Each (λ j. j ≢ controller_at cs c) (map (controller_at cs) ns)
apart cs c [] l e = tt
apart cs c (n ∷ ns) l e = ((λ f. e.0 (sym (place_one cs c n l (omega (arith, f))))), apart cs c ns l e.1)

place_front : (c : ℕ) (front back : List ℕ) → Each (λ n. n ≢ c) front → place_of c (front ++ c ∷ back) ≡ length front
place_front c [] back e = rw (eq-eqb c c refl) refl
place_front c (n ∷ front) back e = let t : (c == n) ≡ false = ne_eqb c n (λ f. e.0 (sym f)) in rw t (ap suc (place_front c front back e.1))

-- a controller at its place
record ControllerAt (cs : List ℕ) (c : ℕ) : Type 0 where
  once : StandsOnce (controller_at cs c) (map (controller_at cs) (ascending cs))
  place : length once.front ≡ place_of c (ascending cs)

controller_once : (cs : List ℕ) (c : ℕ) → is_listed cs c ≡ true → ControllerAt cs c
controller_once cs c l =
    let s = ascending_once cs c l in
    record {
      once = record {
        front = map (controller_at cs) s.front;
        back = map (controller_at cs) s.back;
        is = ap (map (controller_at cs)) s.is ∙ map_append (controller_at cs) s.front (c ∷ s.back);
        not_front = apart cs c s.front l s.not_front;
        not_back = apart cs c s.back l s.not_back;
      };
      place = length-map s.front (controller_at cs) ∙ (sym (place_front c s.front s.back s.not_front) ∙ ap (place_of c) (sym s.is));
    }

-- ---- all callers

-- what workers and controllers told after a call, of those before it
pub record Tells (workers : ℕ) (cs : List ℕ) (calls : List Call) (c : Call) : Type 0 where
  pub workers_are : told_workers (by_of c.deed) (text c) (texts cs calls (counted 0 workers)) ≡ texts cs (calls ++ c ∷ []) (counted 0 workers)
  pub controllers_are : told_controllers cs (by_of c.deed) (text c) (texts cs calls (map (controller_at cs) (ascending cs))) ≡ texts cs (calls ++ c ∷ []) (map (controller_at cs) (ascending cs))

pub tells : (workers : ℕ) (cs : List ℕ) (calls : List Call) (d : Deed) (entry : Bool) (count : ℕ) → workers ≤ 16 → IsKnown workers cs d → Tells workers cs calls (record { deed = d; entry = entry; count = count })
tells workers cs calls (Carried x parts fate bytes) entry count few of =
    let c : Call = record { deed = Carried x parts fate bytes; entry = entry; count = count } in
    let at = worker_at x.caller 0 workers x.caller (omega arith) of in
    record {
      workers_are = subst (λ n. told_at n (text c) (texts cs calls (counted 0 workers)) ≡ texts cs (calls ++ c ∷ []) (counted 0 workers)) at.place (told_once cs calls c (counted 0 workers) at.once);
      controllers_are = others_same cs calls c (map (controller_at cs) (ascending cs)) (high x.caller cs (ascending cs) (omega (arith, few, of)));
    }
tells workers cs calls (Asked l reply) entry count few of =
    let c : Call = record { deed = Asked l reply; entry = entry; count = count } in
    let at = controller_once cs l.controller of in
    record {
      workers_are = others_same cs calls c (counted 0 workers) (below (controller_at cs l.controller) 0 workers (omega (arith, few)));
      controllers_are = subst (λ n. told_at n (text c) (texts cs calls (map (controller_at cs) (ascending cs))) ≡ texts cs (calls ++ c ∷ []) (map (controller_at cs) (ascending cs))) at.place (told_once cs calls c (map (controller_at cs) (ascending cs)) at.once);
    }
