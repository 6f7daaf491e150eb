-- A lane's step.
use Rattle.std.proofs.Common.{◌≡◌, ◌≤◌, ◌≢◌, ◌<◌, ℕ, suc, Bool, true, List, [], ◌∷◌, ◌++◌, length, map, take, ◌+◌, subst, refl, ap, sym, ◌∙◌, arith}
use Rattle.vsw_port.specs.Calls.{Job, Call, entries_naming}
use Rattle.vsw_port.specs.History.{Opening}
use Rattle.vsw_port.proofs.Fronts.{prefix_take, prefix_length}
use Rattle.vsw_promise.specs.Jobs.{Placed}
use Rattle.vsw_promise.specs.Ports.{PortSeen}
use Rattle.vsw_many.specs.Actors.{Moves}
use Rattle.vsw_many.specs.Passes.{PassNow, Crosses}
use Rattle.vsw_many.specs.Phases.{Track}
use Rattle.vsw_policy.specs.Sound.{Each}
use Rattle.vsw_actors.specs.declared.lane.Lane.{Lane}
use Rattle.vsw_actors.specs.Actors.{handed}
use Rattle.vsw_actors.proofs.Hops.{hops_own}
use Rattle.vsw_actors.specs.Lanes.{start_of, front_of, fronts_of, CrossesOn, CrossesTold, IsTold, AreTold, IsFit, AreFit, AreFitBut, IsHop, Leads, MovesOn, SpendsAt, SpendsNext}

start_stays : (o : Opening) (base : ℕ) (p q : PassNow) (j : Job) (c : Call) → Crosses o p q j c → base ≤ length p.front → start_of o.controllers base q ≡ start_of o.controllers base p
start_stays o base p q j c x le =
    let front : take base q.front ≡ take base p.front = prefix_take p.front q.front base x.seen le in
    λ i. record { number = x.number i; front = front i; receipts = entries_naming o.controllers (x.number i) (front i) }

pub lane_moves : {S : Type 0} (pass_in : S → PassNow) (tells : S → List Call → Type 0) (o : Opening) (j : Job) (l m : Lane S) → m.base ≡ l.base → l.base ≤ length (pass_in l.station).front → CrossesTold pass_in tells o j l.station m.station
    → (t : Track) → IsTold pass_in tells o.controllers l t → (u : Track) × IsTold pass_in tells o.controllers m u × Moves o j t u
lane_moves pass_in tells o j l m base le w t told =
    let stays : start_of o.controllers m.base (pass_in m.station) ≡ start_of o.controllers l.base (pass_in l.station) = ap (λ n. start_of o.controllers n (pass_in m.station)) base ∙ start_stays o l.base (pass_in l.station) (pass_in m.station) j w.0 w.1 le in (
      record { start = t.start; now = pass_in m.station; calls = t.calls ++ w.0 ∷ [] },
      record { start = told.start ∙ sym stays; now = refl; calls = w.2 t.calls told.calls },
      record { call = w.0; crosses = subst (λ p. Crosses o p (pass_in m.station) j w.0) (sym told.now) w.1; start = refl; calls = refl },
    )

pub lane_moves_on : {S : Type 0} (pass_in : S → PassNow) (tells : S → List Call → Type 0) (o : Opening) (macs : List ℕ) (place : ℕ) (j : Job) (hops : List Placed) (l m : Lane S) → m.base ≡ l.base → l.base ≤ length (pass_in l.station).front
    → CrossesOn pass_in tells o macs place j hops l.station m.station → (t : Track) → IsTold pass_in tells o.controllers l t → (u : Track) × IsTold pass_in tells o.controllers m u × MovesOn o macs place j hops t u
lane_moves_on pass_in tells o macs place j hops l m base le w t told =
    let stays : start_of o.controllers m.base (pass_in m.station) ≡ start_of o.controllers l.base (pass_in l.station) = ap (λ n. start_of o.controllers n (pass_in m.station)) base ∙ start_stays o l.base (pass_in l.station) (pass_in m.station) j w.0 w.1 le in (
      record { start = t.start; now = pass_in m.station; calls = t.calls ++ w.0 ∷ [] },
      record { start = told.start ∙ sym stays; now = refl; calls = w.2 t.calls told.calls },
      record { moves = record { call = w.0; crosses = subst (λ p. Crosses o p (pass_in m.station) j w.0) (sym told.now) w.1; start = refl; calls = refl }; hands = w.3 },
    )

-- what it handed on is the same caller's, at another place
pub worked_hop : {S : Type 0} (pass_in : S → PassNow) (tells : S → List Call → Type 0) (o : Opening) (macs : List ℕ) (place : ℕ) (j : Job) (was : Bool) (h : Placed) (r s : S) → CrossesOn pass_in tells o macs place j (handed was h) r s → was ≡ true → IsHop place j h
worked_hop pass_in tells o macs place j was h r s w e = (subst (λ b. Each (IsHop place j) (handed b h)) e (subst (Each (IsHop place j)) w.3 (hops_own macs place w.0.deed j w.1.about))).0

pub lane_front : {S : Type 0} (pass_in : S → PassNow) (tells : S → List Call → Type 0) (o : Opening) (j : Job) (l m : Lane S) → m.base ≡ l.base → l.base ≤ length (pass_in l.station).front → CrossesTold pass_in tells o j l.station m.station → front_of pass_in m ≡ front_of pass_in l
lane_front pass_in tells o j l m base le w = ap (λ n. take n (pass_in m.station).front) base ∙ prefix_take (pass_in l.station).front (pass_in m.station).front l.base w.1.seen le

pub lane_fit : {P S : Type 0} (pass_in : S → PassNow) (tells : S → List Call → Type 0) (is_of : P → S → Type 0) (permits : S → ℕ) (o : Opening) (j : Job) (p : P) (l m : Lane S) → m.base ≡ l.base → is_of p m.station → permits l.station ≤ permits m.station + 1 → CrossesTold pass_in tells o j l.station m.station
    → (k more : ℕ) → IsFit pass_in is_of permits k (more + 1) p l → IsFit pass_in is_of permits k more p m
lane_fit pass_in tells is_of permits o j p l m base station spent w k more f = record {
  station = station;
  number = w.1.number ∙ f.number;
  based = omega (arith, base, f.based, prefix_length (pass_in l.station).front (pass_in m.station).front w.1.seen);
  room = omega (arith, f.room, spent);
}

-- ---- lanes at other ports

lane_spares : {P S : Type 0} (pass_in : S → PassNow) (is_of : P → S → Type 0) (permits : S → ℕ) (k more : ℕ) (p : P) (l : Lane S) → IsFit pass_in is_of permits k (more + 1) p l → IsFit pass_in is_of permits k more p l
lane_spares pass_in is_of permits k more p l f = record { station = f.station; number = f.number; based = f.based; room = omega (arith, f.room) }

-- lanes with room for one entry more, at any place
lanes_but : {P S : Type 0} (pass_in : S → PassNow) (is_of : P → S → Type 0) (permits : S → ℕ) (k more i at : ℕ) (ps : List P) (ls : List (Lane S)) → AreFit pass_in is_of permits k (more + 1) ps ls → AreFitBut pass_in is_of permits k more i at ps ls
lanes_but pass_in is_of permits k more i at [] [] f = tt
lanes_but pass_in is_of permits k more i at (p ∷ ps) (l ∷ ls) f = (lane_spares pass_in is_of permits k more p l f.0, (λ ne. f.0), lanes_but pass_in is_of permits k more (suc i) at ps ls f.1)
lanes_but pass_in is_of permits k more i at [] (l ∷ ls) f = absurd f
lanes_but pass_in is_of permits k more i at (p ∷ ps) [] f = absurd f

-- whatever the place, all have room
pub lanes_fit : {P S : Type 0} (pass_in : S → PassNow) (is_of : P → S → Type 0) (permits : S → ℕ) (k more i at : ℕ) (ps : List P) (ls : List (Lane S)) → AreFitBut pass_in is_of permits k more i at ps ls → AreFit pass_in is_of permits k more ps ls
lanes_fit pass_in is_of permits k more i at [] [] f = tt
lanes_fit pass_in is_of permits k more i at (p ∷ ps) (l ∷ ls) f = (f.0, lanes_fit pass_in is_of permits k more (suc i) at ps ls f.2)
lanes_fit pass_in is_of permits k more i at [] (l ∷ ls) f = absurd f
lanes_fit pass_in is_of permits k more i at (p ∷ ps) [] f = absurd f

-- nothing is done from a place beyond the job's on
leads_none : {P : Type 0} (on : P → Track → Track → Type 0) (i at : ℕ) (ps : List P) (ts : List Track) → at < i → length ps ≡ length ts → Leads on i at ps ts ts
leads_none on i at [] [] lt e = tt
leads_none on i at (p ∷ ps) (t ∷ ts) lt e = ((λ f. absurd (omega (arith, f, lt))), (λ ne. refl), leads_none on (suc i) at ps ts (omega (arith, lt)) (omega (arith, e)))
leads_none on i at [] (t ∷ ts) lt e = absurd (omega (arith, e))
leads_none on i at (p ∷ ps) [] lt e = absurd (omega (arith, e))

told_length : {P S : Type 0} (port_in : P → PortSeen) (pass_in : S → PassNow) (tells : S → List Call → Type 0) (ps : List P) (ls : List (Lane S)) (ts : List Track) → AreTold port_in pass_in tells ps ls ts → length ps ≡ length ts
told_length port_in pass_in tells [] [] [] a = refl
told_length port_in pass_in tells (p ∷ ps) (l ∷ ls) (t ∷ ts) a = ap suc (told_length port_in pass_in tells ps ls ts a.1)
told_length port_in pass_in tells [] [] (t ∷ ts) a = absurd a
told_length port_in pass_in tells [] (l ∷ ls) ts a = absurd a
told_length port_in pass_in tells (p ∷ ps) [] ts a = absurd a
told_length port_in pass_in tells (p ∷ ps) (l ∷ ls) [] a = absurd a

-- what is done at a place to lanes, as their tracks tell
abbrev pub Done : {P S : Type 0} → (P → PortSeen) → (S → PassNow) → (S → List Call → Type 0) → (P → Track → Track → Type 0) → ℕ → ℕ → List P → List (Lane S) → List (Lane S) → Type 0
Done port_in pass_in tells on i at ps ls ms = (ts : List Track) → AreTold port_in pass_in tells ps ls ts → (us : List Track) × AreTold port_in pass_in tells ps ms us × Leads on i at ps ts us

-- the first lane is used
pub done_here : {P S : Type 0} (port_in : P → PortSeen) (pass_in : S → PassNow) (tells : S → List Call → Type 0) (on : P → Track → Track → Type 0) (i at : ℕ) (p : P) (ps qs : List P) (l m : Lane S) (ls ks : List (Lane S)) → qs ≡ p ∷ ps → ks ≡ l ∷ ls → i ≡ at
    → ((t : Track) → IsTold pass_in tells (port_in p).controllers l t → (u : Track) × IsTold pass_in tells (port_in p).controllers m u × on p t u) → Done port_in pass_in tells on i at qs ks (m ∷ ls)
done_here port_in pass_in tells on i at p ps qs l m ls ks e f same moves = subst (λ qs. Done port_in pass_in tells on i at qs ks (m ∷ ls)) (sym e) (subst (λ ks. Done port_in pass_in tells on i at (p ∷ ps) ks (m ∷ ls)) (sym f) here)
  where
    here : Done port_in pass_in tells on i at (p ∷ ps) (l ∷ ls) (m ∷ ls)
    here [] a = absurd a
    here (t ∷ ts) a =
        let d = moves t a.0 in
        (d.0 ∷ ts, (d.1, a.1), ((λ g. d.2), (λ ne. absurd (ne same)), leads_none on (suc i) at ps ts (omega (arith, same)) (told_length port_in pass_in tells ps ls ts a.1)))

-- another lane is
pub done_there : {P S : Type 0} (port_in : P → PortSeen) (pass_in : S → PassNow) (tells : S → List Call → Type 0) (on : P → Track → Track → Type 0) (i at : ℕ) (p : P) (ps qs : List P) (l : Lane S) (ls ms ks : List (Lane S)) → qs ≡ p ∷ ps → ks ≡ l ∷ ls → i ≢ at
    → Done port_in pass_in tells on (i + 1) at ps ls ms → Done port_in pass_in tells on i at qs ks (l ∷ ms)
done_there port_in pass_in tells on i at p ps qs l ls ms ks e f ne rest = subst (λ qs. Done port_in pass_in tells on i at qs ks (l ∷ ms)) (sym e) (subst (λ ks. Done port_in pass_in tells on i at (p ∷ ps) ks (l ∷ ms)) (sym f) there)
  where
    more : Done port_in pass_in tells on (suc i) at ps ls ms
    more = subst (λ n. Done port_in pass_in tells on n at ps ls ms) (omega arith) rest

    there : Done port_in pass_in tells on i at (p ∷ ps) (l ∷ ls) (l ∷ ms)
    there [] a = absurd a
    there (t ∷ ts) a =
        let d = more ts a.1 in
        (t ∷ d.0, (a.0, d.1), ((λ g. absurd (ne g)), (λ g. refl), d.2))

-- no lane is there
pub done_nowhere : {P S : Type 0} (port_in : P → PortSeen) (pass_in : S → PassNow) (tells : S → List Call → Type 0) (on : P → Track → Track → Type 0) (i at : ℕ) (qs : List P) (ks : List (Lane S)) → length qs ≡ 0 → Done port_in pass_in tells on i at qs ks ks
done_nowhere port_in pass_in tells on i at [] [] e [] a = ([], tt, tt)
done_nowhere port_in pass_in tells on i at [] [] e (t ∷ ts) a = absurd a
done_nowhere port_in pass_in tells on i at [] (k ∷ ks) e ts a = absurd a
done_nowhere port_in pass_in tells on i at (q ∷ qs) ks e ts a = absurd (omega (arith, e))

-- ---- permits

pub spend_here : {P S : Type 0} (pass_in : S → PassNow) (is_of : P → S → Type 0) (permits : S → ℕ) (i at : ℕ) (p : P) (ps qs : List P) (l m : Lane S) (ls ks : List (Lane S)) → qs ≡ p ∷ ps → ks ≡ l ∷ ls → i ≡ at
    → ((k more : ℕ) → IsFit pass_in is_of permits k (more + 1) p l → IsFit pass_in is_of permits k more p m) → SpendsAt pass_in is_of permits i at qs ks (m ∷ ls)
spend_here pass_in is_of permits i at p ps qs l m ls ks e f same one =
    subst (λ qs. SpendsAt pass_in is_of permits i at qs ks (m ∷ ls)) (sym e)
    (subst (λ ks. SpendsAt pass_in is_of permits i at (p ∷ ps) ks (m ∷ ls)) (sym f) (λ k more a. (one k more a.0, (λ ne. absurd (ne same)), lanes_but pass_in is_of permits k more (suc i) at ps ls a.1)))

pub spend_there : {P S : Type 0} (pass_in : S → PassNow) (is_of : P → S → Type 0) (permits : S → ℕ) (i at : ℕ) (p : P) (ps qs : List P) (l : Lane S) (ls ms ks : List (Lane S)) → qs ≡ p ∷ ps → ks ≡ l ∷ ls → SpendsAt pass_in is_of permits (i + 1) at ps ls ms → SpendsAt pass_in is_of permits i at qs ks (l ∷ ms)
spend_there pass_in is_of permits i at p ps qs l ls ms ks e f rest =
    let next : i + 1 ≡ suc i = omega arith in
    let later = subst (λ n. SpendsAt pass_in is_of permits n at ps ls ms) next rest in
    subst (λ qs. SpendsAt pass_in is_of permits i at qs ks (l ∷ ms)) (sym e) (subst (λ ks. SpendsAt pass_in is_of permits i at (p ∷ ps) ks (l ∷ ms)) (sym f) (λ k more a. (lane_spares pass_in is_of permits k more p l a.0, (λ ne. a.0), later k more a.1)))

pub spend_nowhere : {P S : Type 0} (pass_in : S → PassNow) (is_of : P → S → Type 0) (permits : S → ℕ) (i at : ℕ) (qs : List P) (ks : List (Lane S)) → SpendsAt pass_in is_of permits i at qs ks ks
spend_nowhere pass_in is_of permits i at qs ks k more a = lanes_but pass_in is_of permits k more i at qs ks a

pub spends_here : {P S : Type 0} (pass_in : S → PassNow) (is_of : P → S → Type 0) (permits : S → ℕ) (i at : ℕ) (p : P) (ps qs : List P) (l m : Lane S) (ls ks : List (Lane S)) → qs ≡ p ∷ ps → ks ≡ l ∷ ls → i ≡ at
    → ((k more : ℕ) → IsFit pass_in is_of permits k (more + 1) p l → IsFit pass_in is_of permits k more p m) → SpendsNext pass_in is_of permits i at qs ks (m ∷ ls)
spends_here pass_in is_of permits i at p ps qs l m ls ks e f same one =
    subst (λ qs. SpendsNext pass_in is_of permits i at qs ks (m ∷ ls)) (sym e)
    (subst (λ ks. SpendsNext pass_in is_of permits i at (p ∷ ps) ks (m ∷ ls)) (sym f) (λ k more from ne a. (one k more (a.1 (λ g. ne (sym same ∙ g))), lanes_fit pass_in is_of permits k more (suc i) from ps ls a.2)))

pub spends_there : {P S : Type 0} (pass_in : S → PassNow) (is_of : P → S → Type 0) (permits : S → ℕ) (i at : ℕ) (p : P) (ps qs : List P) (l : Lane S) (ls ms ks : List (Lane S)) → qs ≡ p ∷ ps → ks ≡ l ∷ ls → SpendsNext pass_in is_of permits (i + 1) at ps ls ms → SpendsNext pass_in is_of permits i at qs ks (l ∷ ms)
spends_there pass_in is_of permits i at p ps qs l ls ms ks e f rest =
    let next : i + 1 ≡ suc i = omega arith in
    let later = subst (λ n. SpendsNext pass_in is_of permits n at ps ls ms) next rest in
    subst (λ qs. SpendsNext pass_in is_of permits i at qs ks (l ∷ ms)) (sym e) (subst (λ ks. SpendsNext pass_in is_of permits i at (p ∷ ps) ks (l ∷ ms)) (sym f) (λ k more from ne a. (a.0, later k more from ne a.2)))

pub spends_nowhere : {P S : Type 0} (pass_in : S → PassNow) (is_of : P → S → Type 0) (permits : S → ℕ) (i at : ℕ) (qs : List P) (ks : List (Lane S)) → SpendsNext pass_in is_of permits i at qs ks ks
spends_nowhere pass_in is_of permits i at qs ks k more from ne a = lanes_fit pass_in is_of permits k more i from qs ks a

pub fronts_here : {S : Type 0} (pass_in : S → PassNow) (l m : Lane S) (ls ks : List (Lane S)) → ks ≡ l ∷ ls → front_of pass_in m ≡ front_of pass_in l → fronts_of pass_in (m ∷ ls) ≡ fronts_of pass_in ks
fronts_here pass_in l m ls ks f e = ap (λ w. w ∷ fronts_of pass_in ls) e ∙ ap (fronts_of pass_in) (sym f)

pub fronts_there : {S : Type 0} (pass_in : S → PassNow) (l : Lane S) (ls ms ks : List (Lane S)) → ks ≡ l ∷ ls → fronts_of pass_in ms ≡ fronts_of pass_in ls → fronts_of pass_in (l ∷ ms) ≡ fronts_of pass_in ks
fronts_there pass_in l ls ms ks f e = ap (λ w. front_of pass_in l ∷ w) e ∙ ap (fronts_of pass_in) (sym f)
