-- Callers that handed packets on have done what is dealt to them of all that was done.
use Rattle.std.proofs.Common.{◌≡◌, ◌≢◌, ◌≤◌, ◌<◌, ◌+◌, ◌==◌, ℕ, zero, suc, Bool, true, false, if◌then◌else◌, map, length, List, [], ◌∷◌, ◌++◌, refl, ap, sym, ◌∙◌, subst, arith, eq-eqb, ne_eqb, append_assoc}
use native.Mathlib.Decide.{ℕ_discrete}
use Rattle.vsw_port.proofs.Fronts.{append_end}
use Rattle.vsw_port.specs.Calls.{Call, Job, job_doer}
use Rattle.vsw_port.specs.declared.event.Event.{Event}
use Rattle.vsw_dock.proofs.Actors.{filter_append}
use Rattle.vsw_dock.proofs.HairpinHops.{ask_hands_none}
use Rattle.vsw_dock.proofs.Hops.{hops_own}
use Rattle.vsw_dock.specs.Actors.{AreRows, HasWorked}
use Rattle.vsw_dock.specs.Handing.{AreHandedRows, HaveHanded, with_hops}
use Rattle.vsw_dock.specs.Lanes.{DoesOn, IsHop}
use Rattle.vsw_dock.specs.Phases.{Lane, Track}
use Rattle.vsw_dock.specs.Plain.{IsAsk}
use Rattle.vsw_policy.specs.Sound.{Each}
use Rattle.vsw_promise.specs.Jobs.{Placed}
use Rattle.vsw_many.specs.Dealing.{deal}
use Rattle.vsw_promise.specs.Ports.{PortSeen}

-- ---- whose jobs they are

each_join : (P : Placed → Type 0) (xs ys : List Placed) → Each P xs → Each P ys → Each P (xs ++ ys)
each_join P [] ys a b = b
each_join P (x ∷ xs) ys a b = (a.0, each_join P xs ys a.1 b)

hops_of_one : (cs : List ℕ) (k place : ℕ) (j : Job) (hops : List Placed) → job_doer cs j ≡ k → Each (IsHop place j) hops → Each (λ t. job_doer cs t.1 ≡ k) hops
hops_of_one cs k place j [] who e = tt
hops_of_one cs k place j (h ∷ hops) who e = (e.0.doer cs ∙ who, hops_of_one cs k place j hops who e.1)

all_own : (macs cs : List ℕ) (k : ℕ) (calls : List (List Call)) (js : List Placed) (hops : List (List Placed)) → Each (λ t. job_doer cs t.1 ≡ k) js → HaveHanded macs calls js hops → Each (λ t. job_doer cs t.1 ≡ k) (with_hops js hops)
all_own macs cs k calls [] hops e h = tt
all_own macs cs k calls (j ∷ js) (x ∷ hops) e h =
    let one : Each (IsHop j.0 j.1) x = subst (Each (IsHop j.0 j.1)) (sym h.0.hops_are) (hops_own macs j.0 h.0.call.deed j.1 h.0.job) in
    (e.0, each_join (λ t. job_doer cs t.1 ≡ k) x (with_hops js hops) (hops_of_one cs k j.0 j.1 x e.0 one) (all_own macs cs k calls js hops e.1 h.1))
all_own macs cs k calls (j ∷ js) [] e h = absurd h

eq_is : (a b : ℕ) → (a == b) ≡ true → a ≡ b
eq_is a b e = by (ℕ_discrete a b)
  where
    by : Dec (a ≡ b) → a ≡ b
    by (yes same) = same
    by (no ne) = let f : (a == b) ≡ false = ne_eqb a b ne in absurd (cc (e, f))

dealt_own : (cs : List ℕ) (k : ℕ) (js : List Placed) → Each (λ t. job_doer cs t.1 ≡ k) (deal cs k js)
dealt_own cs k [] = tt
dealt_own cs k (t ∷ ts) = by (job_doer cs t.1 == k) refl (dealt_own cs k ts)
  where
    by : (b : Bool) → (job_doer cs t.1 == k) ≡ b → Each (λ t. job_doer cs t.1 ≡ k) (deal cs k ts) → Each (λ t. job_doer cs t.1 ≡ k) (if b then t ∷ deal cs k ts else deal cs k ts)
    by true e ih = (eq_is (job_doer cs t.1) k e, ih)
    by false e ih = ih

deal_all : (cs : List ℕ) (k : ℕ) (js : List Placed) → Each (λ t. job_doer cs t.1 ≡ k) js → deal cs k js ≡ js
deal_all cs k [] e = refl
deal_all cs k (t ∷ ts) e = let is : (job_doer cs t.1 == k) ≡ true = eq-eqb (job_doer cs t.1) k e.0 in ap (λ b. if b then t ∷ deal cs k ts else deal cs k ts) is ∙ ap (λ w. t ∷ w) (deal_all cs k ts e.1)

deal_no : (cs : List ℕ) (k : ℕ) (js : List Placed) → Each (λ t. job_doer cs t.1 ≢ k) js → deal cs k js ≡ []
deal_no cs k [] e = refl
deal_no cs k (t ∷ ts) e = let not : (job_doer cs t.1 == k) ≡ false = ne_eqb (job_doer cs t.1) k e.0 in ap (λ b. if b then t ∷ deal cs k ts else deal cs k ts) not ∙ deal_no cs k ts e.1

deal_join : (cs : List ℕ) (k : ℕ) (xs ys : List Placed) → deal cs k (xs ++ ys) ≡ deal cs k xs ++ deal cs k ys
deal_join cs k xs ys = filter_append (λ (t : Placed). job_doer cs t.1 == k) xs ys

-- ---- what all did, caller after caller

joined : List ℕ → List Placed → ℕ → List (List (List Placed)) → List Placed
joined cs all k [] = []
joined cs all k (h ∷ hops) = with_hops (deal cs k all) h ++ joined cs all (suc k) hops

-- the jobs of the callers from this number on
joined_high : (macs cs : List ℕ) (all : List Placed) (i k : ℕ) (ps : List PortSeen) (hs gs : List (List Event)) (rows : List (List Lane)) (hops : List (List (List Placed))) → i < k → AreHandedRows macs cs all k ps hs gs rows hops → Each (λ t. job_doer cs t.1 ≢ i) (joined cs all k hops)
unfolding joined
joined_high macs cs all i k ps hs gs [] [] lt a = tt
joined_high macs cs all i k ps hs gs (row ∷ rows) (h ∷ hops) lt a =
    each_join (λ t. job_doer cs t.1 ≢ i) (with_hops (deal cs k all) h) (joined cs all (suc k) hops) (others (with_hops (deal cs k all) h) (all_own macs cs k (map (λ l. l.track.calls) row) (deal cs k all) h (dealt_own cs k all) a.1))
    (joined_high macs cs all i (suc k) ps hs gs rows hops (omega (arith, lt)) a.2)
  where
    others : (js : List Placed) → Each (λ t. job_doer cs t.1 ≡ k) js → Each (λ t. job_doer cs t.1 ≢ i) js
    others [] e = tt
    others (t ∷ ts) e = ((λ f. omega (arith, e.0, f, lt)), others ts e.1)
joined_high macs cs all i k ps hs gs [] (h ∷ hops) lt a = absurd a
joined_high macs cs all i k ps hs gs (row ∷ rows) [] lt a = absurd a

-- what others did before
NoneFrom : List ℕ → ℕ → List Placed → Type 0
NoneFrom cs k front = (i : ℕ) → k ≤ i → deal cs i front ≡ []

pooled_from : (macs cs : List ℕ) (all front : List Placed) (k : ℕ) (ps : List PortSeen) (hs gs : List (List Event)) (rows : List (List Lane)) (hops : List (List (List Placed))) → NoneFrom cs k front → AreHandedRows macs cs all k ps hs gs rows hops → AreRows cs (front ++ joined cs all k hops) 0 k ps hs gs rows
unfolding joined NoneFrom
pooled_from macs cs all front k ps hs gs [] [] none a = tt
pooled_from macs cs all front k ps hs gs (row ∷ rows) (h ∷ hops) none a =
    let own : List Placed = with_hops (deal cs k all) h in
    let rest : List Placed = joined cs all (suc k) hops in
    let whose = all_own macs cs k (map (λ l. l.track.calls) row) (deal cs k all) h (dealt_own cs k all) a.1 in
    let here : deal cs k (front ++ (own ++ rest)) ≡ own =
    deal_join cs k front (own ++ rest) ∙ (ap (λ w. w ++ deal cs k (own ++ rest)) (none k (omega arith)) ∙ (deal_join cs k own rest
    ∙ (ap (λ w. w ++ deal cs k rest) (deal_all cs k own whose) ∙ (ap (λ w. own ++ w) (deal_no cs k rest (joined_high macs cs all k (suc k) ps hs gs rows hops (omega arith) a.2)) ∙ append_end own)))) in
    let later : NoneFrom cs (suc k) (front ++ own) = λ i le. deal_join cs i front own ∙ (ap (λ w. w ++ deal cs i own) (none i (omega (arith, le))) ∙ deal_no cs i own (others i le own whose)) in
    (subst (HasWorked 0 k ps hs gs row) (sym here) a.0, subst (λ w. AreRows cs w 0 (suc k) ps hs gs rows) (append_assoc front own rest) (pooled_from macs cs all (front ++ own) (suc k) ps hs gs rows hops later a.2))
  where
    others : (i : ℕ) → suc k ≤ i → (js : List Placed) → Each (λ t. job_doer cs t.1 ≡ k) js → Each (λ t. job_doer cs t.1 ≢ i) js
    others i le [] e = tt
    others i le (t ∷ ts) e = ((λ f. omega (arith, e.0, f, le)), others i le ts e.1)
pooled_from macs cs all front k ps hs gs [] (h ∷ hops) none a = absurd a
pooled_from macs cs all front k ps hs gs (row ∷ rows) [] none a = absurd a

pub pooled : (macs cs : List ℕ) (all : List Placed) (ps : List PortSeen) (hs gs : List (List Event)) (rows : List (List Lane)) (hops : List (List (List Placed))) → AreHandedRows macs cs all 0 ps hs gs rows hops → (pool : List Placed) × AreRows cs pool 0 0 ps hs gs rows
unfolding NoneFrom
pooled macs cs all ps hs gs rows hops a = (joined cs all 0 hops, pooled_from macs cs all [] 0 ps hs gs rows hops (λ i le. refl) a)

-- ---- commands hand nothing on

-- a track on which a command was asked
pub line_alone : {P : Type 0} (port_in : P → PortSeen) (locals : P → List ℕ) (at : ℕ) (j : Job) (hops : List Placed) (ps : List P) (ts us : List Track) → IsAsk j → at < length ps → DoesOn port_in locals 0 at j hops ps ts us → hops ≡ []
line_alone {P = P} port_in locals at j hops ps ts us is lt d = let from : 0 + at ≡ at = omega arith in alone 0 at ps ts us from lt d
  where
    alone : (i n : ℕ) (ps : List P) (ts us : List Track) → i + n ≡ at → n < length ps → DoesOn port_in locals i at j hops ps ts us → hops ≡ []
    alone i zero (p ∷ ps) (t ∷ ts) (u ∷ us) e lt d =
        let here : i ≡ at = omega (arith, e) in
        let m = d.0 here in
        sym m.hands ∙ ask_hands_none (locals p) at m.moves.call.deed j m.moves.crosses.about is
    alone i (suc n) (p ∷ ps) (t ∷ ts) (u ∷ us) e lt d = alone (suc i) n ps ts us (omega (arith, e)) (omega (arith, lt)) d.2
    alone i n [] ts us e lt d = absurd (omega (arith, lt))
    alone i n (p ∷ ps) [] us e lt d = absurd d
    alone i n (p ∷ ps) (t ∷ ts) [] e lt d = absurd d
