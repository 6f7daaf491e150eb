-- An actor begins, and does one job after the other.
use Rattle.std.proofs.Common.{◌≡◌, ◌≢◌, ◌<◌, ◌+◌, ℕ, zero, suc, Bool, true, false, List, [], ◌∷◌, ◌++◌, length, map, take, drop, Some, slice_get, get_or, subst, refl, ap, ap₂, sym, ◌∙◌, arith, append_assoc}
use native.Mathlib.Decide.{ℕ_discrete}
use Rattle.vsw_policy.specs.Sound.{Each}
use Rattle.vsw_promise.specs.Jobs as jobs
use Rattle.vsw_promise.specs.Ports.{PortSeen}
use Rattle.vsw_port.specs.Calls.{Job, Call, job_doer, job_of, entries_naming}
use Rattle.vsw_port.specs.History.{Opening}
use Rattle.vsw_port.specs.declared.event.Event.{Event}
use Rattle.vsw_port.proofs.Fronts.{append_end}
use Rattle.vsw_promise.specs.Rounds.{opening_of}
use Rattle.vsw_promise.proofs.PortRounds.{take_whole}
use Rattle.vsw_hairpin.specs.Handing.{HasHanded, HaveHanded, handed_by, with_hops}
use Rattle.vsw_history_law.proofs.Reports.{map_append}
use Rattle.vsw_many.specs.Actors.{AtWork, Does}
use Rattle.vsw_many.specs.Passes.{PassNow, AtRest, Works}
use Rattle.vsw_many.specs.Phases.{Track, IsTrack}
use Rattle.vsw_many.proofs.Actors.{actor_goes_on}
use Rattle.vsw_many.proofs.Orders.{drop_at}
use Rattle.vsw_many.proofs.Passes.{works_begin}
use Rattle.vsw_actors.specs.declared.actor.Placed.{Placed}
use Rattle.vsw_actors.specs.declared.lane.Lane.{Lane}
use Rattle.vsw_actors.specs.Actors.{placed_of, AreAlike, AreMine, AtWorkOn, Begins, DoesAll, Follows, HasDone, IsRoomy, locals_at}
use Rattle.vsw_actors.specs.Lanes.{start_of, fronts_of, AreTold, AreFit, AreFitBut, DoesAt, DoesOn, IsHop, IsOwn, IsReady, IsTaken, Leads, MovesOn}
use Rattle.vsw_actors.proofs.Hops.{hops_own}

-- ---- as a round begins

-- a pass at rest is as it rested
rested : (o : Opening) (base k : ℕ) (p : PassNow) → base ≡ length p.front → AtRest o p.front k p → start_of o.controllers base p ≡ p
rested o base k p counted rest =
    let front : take base p.front ≡ p.front = ap (λ n. take n p.front) counted ∙ take_whole p.front in
    let receipts : entries_naming o.controllers p.number (take base p.front) ≡ p.receipts = ap (entries_naming o.controllers p.number) front ∙ (ap (λ n. entries_naming o.controllers n p.front) rest.number ∙ sym rest.receipts) in
    λ i. record { number = p.number; front = front i; receipts = receipts i }

first_track : (o : Opening) (base k : ℕ) (p : PassNow) → base ≡ length p.front → AtRest o p.front k p → IsTrack o (take base p.front) k (record { start = start_of o.controllers base p; now = p; calls = [] })
first_track o base k p counted rest = record {
  rest = record { number = rest.number; front = refl; receipts = ap (λ n. entries_naming o.controllers n (take base p.front)) rest.number };
  works = subst (λ s. Works o s p []) (sym (rested o base k p counted rest)) (works_begin o p);
  own = tt;
}

-- the tracks of lanes that begin
abbrev first_tracks : {P S : Type 0} → (P → PortSeen) → (S → PassNow) → List P → List (Lane S) → List Track
first_tracks port_in pass_in (p ∷ ps) (l ∷ ls) = record { start = start_of (port_in p).controllers l.base (pass_in l.station); now = pass_in l.station; calls = [] } ∷ first_tracks port_in pass_in ps ls
first_tracks port_in pass_in _ _ = []

first_told : {P S : Type 0} (port_in : P → PortSeen) (pass_in : S → PassNow) (tells : S → List Call → Type 0) (k : ℕ) (ps : List P) (ls : List (Lane S)) → Begins port_in pass_in tells k ps ls → AreTold port_in pass_in tells ps ls (first_tracks port_in pass_in ps ls)
first_told port_in pass_in tells k [] [] b = tt
first_told port_in pass_in tells k (p ∷ ps) (l ∷ ls) b = (record { start = refl; now = refl; calls = b.2 }, first_told port_in pass_in tells k ps ls b.3)
first_told port_in pass_in tells k [] (l ∷ ls) b = absurd b
first_told port_in pass_in tells k (p ∷ ps) [] b = absurd b

first_work : {P S : Type 0} (port_in : P → PortSeen) (pass_in : S → PassNow) (tells : S → List Call → Type 0) (i k : ℕ) (ps : List P) (ls : List (Lane S)) → Begins port_in pass_in tells k ps ls → AtWork i k (map port_in ps) (fronts_of pass_in ls) (first_tracks port_in pass_in ps ls) []
first_work port_in pass_in tells i k [] [] b = tt
first_work port_in pass_in tells i k (p ∷ ps) (l ∷ ls) b = (first_track (opening_of (port_in p)) l.base k (pass_in l.station) b.0 b.1, refl, first_work port_in pass_in tells (suc i) k ps ls b.3)
first_work port_in pass_in tells i k [] (l ∷ ls) b = absurd b
first_work port_in pass_in tells i k (p ∷ ps) [] b = absurd b

pub nothing_done : {J P S : Type 0} (port_in : P → PortSeen) (locals : P → List ℕ) (pass_in : S → PassNow) (job_in : J → Job) (tells : S → List Call → Type 0) (k : ℕ) (ps : List P) (ls : List (Lane S)) → Begins port_in pass_in tells k ps ls → HasDone port_in locals pass_in job_in tells k ps (fronts_of pass_in ls) ls []
nothing_done port_in locals pass_in job_in tells k ps ls b = (first_tracks port_in pass_in ps ls, first_told port_in pass_in tells k ps ls b, record { hops = []; work = first_work port_in pass_in tells 0 k ps ls b; handed = tt })

-- ---- one more job

taken_more : {A : Type 0} (n : ℕ) (xs : List A) (x : A) → slice_get xs n ≡ Some x → take (suc n) xs ≡ take n xs ++ x ∷ []
taken_more n [] x e = absurd cc
taken_more zero (y ∷ xs) x e = let same : y ≡ x = cc e in ap (λ w. w ∷ []) same
taken_more (suc n) (y ∷ xs) x e = ap (λ w. y ∷ w) (taken_more n xs x e)

pub take_next : {A : Type 0} (n : ℕ) (xs : List A) (x : A) → slice_get xs n ≡ Some x → take (n + 1) xs ≡ take n xs ++ x ∷ []
take_next n xs x e = let m : n + 1 ≡ suc n = omega arith in ap (λ k. take k xs) m ∙ taken_more n xs x e

pub drop_next : {A : Type 0} (n : ℕ) (xs : List A) (x : A) → slice_get xs n ≡ Some x → drop n xs ≡ x ∷ drop (n + 1) xs
drop_next n xs x e = let m : suc n ≡ n + 1 = omega arith in drop_at n xs x e ∙ ap (λ k. x ∷ drop k xs) m

-- the job at a number among these
abbrev pub Next : {A : Type 0} → ℕ → List A → A → Type 0
Next n xs x = slice_get xs n ≡ Some x

pub next_is : {A : Type 0} (n : ℕ) (xs : List A) (x : A) → n < length xs → x ≡ get_or xs n x → Next n xs x
next_is n [] x lt e = absurd (omega (arith, lt))
next_is zero (y ∷ xs) x lt e = ap (λ w. Some w) (sym e)
next_is (suc n) (y ∷ xs) x lt e = next_is n xs x (omega (arith, lt)) e

pub next_mine : {J P : Type 0} (port_in : P → PortSeen) (job_in : J → Job) (takes : P → ℕ → J → Type 0) (k : ℕ) (ps : List P) (n : ℕ) (js : List (Placed J)) (a : Placed J) → Next n js a → AreMine port_in job_in takes k ps (drop n js)
    → (IsOwn port_in (job_in a.job) k ps × IsTaken takes 0 a.place a.job ps × (a.place < length ps)) × AreMine port_in job_in takes k ps (drop (n + 1) js)
next_mine port_in job_in takes k ps n js a e m = subst (AreMine port_in job_in takes k ps) (drop_next n js a e) m

pub next_room : {J P S : Type 0} (pass_in : S → PassNow) (is_of : P → S → Type 0) (permits : S → ℕ) (k : ℕ) (ps : List P) (ls : List (Lane S)) (n : ℕ) (js : List (Placed J)) (a : Placed J) → Next n js a → AreFit pass_in is_of permits k (length (drop n js)) ps ls
    → AreFit pass_in is_of permits k (length (drop (n + 1) js) + 1) ps ls
next_room pass_in is_of permits k ps ls n js a e f = subst (λ m. AreFit pass_in is_of permits k m ps ls) (ap length (drop_next n js a e) ∙ omega arith) f

-- so there is room for one entry
pub next_one : {P S : Type 0} (pass_in : S → PassNow) (is_of : P → S → Type 0) (permits : S → ℕ) (k more : ℕ) (ps : List P) (ls : List (Lane S)) → AreFit pass_in is_of permits k (more + 1) ps ls → AreFit pass_in is_of permits k 1 ps ls
next_one pass_in is_of permits k more [] [] f = tt
next_one pass_in is_of permits k more (p ∷ ps) (l ∷ ls) f = (record { station = f.0.station; number = f.0.number; based = f.0.based; room = omega (arith, f.0.room) }, next_one pass_in is_of permits k more ps ls f.1)
next_one pass_in is_of permits k more [] (l ∷ ls) f = absurd f
next_one pass_in is_of permits k more (p ∷ ps) [] f = absurd f

-- lanes with room may be used for the actor's job
pub ready_of : {P S : Type 0} (port_in : P → PortSeen) (pass_in : S → PassNow) (is_of : P → S → Type 0) (permits : S → ℕ) (k more i place : ℕ) (j : Job) (ps : List P) (ls : List (Lane S)) → IsOwn port_in j k ps → AreFit pass_in is_of permits k (more + 1) ps ls
    → IsReady port_in pass_in is_of permits i place j ps ls
ready_of port_in pass_in is_of permits k more i place j [] ls own f = tt
ready_of port_in pass_in is_of permits k more i place j (p ∷ ps) [] own f = tt
ready_of port_in pass_in is_of permits k more i place j (p ∷ ps) (l ∷ ls) own f =
    ((λ e. record { station = f.0.station; own = own.0 ∙ sym f.0.number; based = f.0.based; permit = omega (arith, f.0.room) }), ready_of port_in pass_in is_of permits k more (suc i) place j ps ls own.1 f.1)

-- and then, at another place, for what its call handed on
pub ready_on : {P S : Type 0} (port_in : P → PortSeen) (pass_in : S → PassNow) (is_of : P → S → Type 0) (permits : S → ℕ) (k more i from to : ℕ) (j h : Job) (ps : List P) (ls : List (Lane S)) → to ≢ from → ((cs : List ℕ) → job_doer cs h ≡ job_doer cs j) → IsOwn port_in j k ps
    → AreFitBut pass_in is_of permits k more i from ps ls → IsReady port_in pass_in is_of permits i to h ps ls
ready_on port_in pass_in is_of permits k more i from to j h [] ls ne doer own f = tt
ready_on port_in pass_in is_of permits k more i from to j h (p ∷ ps) [] ne doer own f = tt
ready_on port_in pass_in is_of permits k more i from to j h (p ∷ ps) (l ∷ ls) ne doer own f = (
  (λ e. let fit = f.1 (λ g. ne (sym e ∙ g)) in record { station = fit.station; own = doer (port_in p).controllers ∙ (own.0 ∙ sym fit.number); based = fit.based; permit = omega (arith, fit.room) }),
  ready_on port_in pass_in is_of permits k more (suc i) from to j h ps ls ne doer own.1 f.2,
)

-- a parcel with room for any job has room for one
pub roomy_one : {J P Q : Type 0} (fits : P → J → Q → Type 0) (j : J) (q : Q) (ps : List P) → IsRoomy fits ps q → Each (λ p. fits p j q) ps
roomy_one fits j q [] r = tt
roomy_one fits j q (p ∷ ps) r = (r.0 j, roomy_one fits j q ps r.1)

pub roomy_still : {J P Q : Type 0} (fits : P → J → Q → Type 0) (q r : Q) (ps : List P) → ((p : P) (j : J) → fits p j q → fits p j r) → IsRoomy fits ps q → IsRoomy fits ps r
roomy_still fits q r [] still a = tt
roomy_still fits q r (p ∷ ps) still a = ((λ j. still p j (a.0 j)), roomy_still fits q r ps still a.1)

own_at_all : {P : Type 0} (port_in : P → PortSeen) (k : ℕ) (j : Job) (ps : List P) → IsOwn port_in j k ps → Each (λ p. job_doer p.controllers j ≡ k) (map port_in ps)
own_at_all port_in k j [] own = tt
own_at_all port_in k j (p ∷ ps) own = (own.0, own_at_all port_in k j ps own.1)

own_on : {P : Type 0} (port_in : P → PortSeen) (k : ℕ) (j h : Job) (ps : List P) → ((cs : List ℕ) → job_doer cs h ≡ job_doer cs j) → IsOwn port_in j k ps → IsOwn port_in h k ps
own_on port_in k j h [] doer own = tt
own_on port_in k j h (p ∷ ps) doer own = (doer (port_in p).controllers ∙ own.0, own_on port_in k j h ps doer own.1)

-- ---- what is done to the tracks

does_at : {P : Type 0} (port_in : P → PortSeen) (i at : ℕ) (j : Job) (ps : List P) (ts us : List Track) → DoesAt port_in i at j ps ts us → Does i at j (map port_in ps) ts us
does_at port_in i at j [] [] [] d = tt
does_at port_in i at j (p ∷ ps) (t ∷ ts) (u ∷ us) d = ((λ e. d.0 (sym e)), (λ ne. d.1 (λ e. ne (sym e))), does_at port_in (suc i) at j ps ts us d.2)
does_at port_in i at j [] [] (u ∷ us) d = absurd d
does_at port_in i at j [] (t ∷ ts) us d = absurd d
does_at port_in i at j (p ∷ ps) [] us d = absurd d
does_at port_in i at j (p ∷ ps) (t ∷ ts) [] d = absurd d

own_does : {P : Type 0} (port_in : P → PortSeen) (locals : P → List ℕ) (i at : ℕ) (j : Job) (hops : List jobs.Placed) (ps : List P) (ts us : List Track) → DoesOn port_in locals i at j hops ps ts us → DoesAt port_in i at j ps ts us
own_does port_in locals i at j hops [] [] [] d = tt
own_does port_in locals i at j hops (p ∷ ps) (t ∷ ts) (u ∷ us) d = ((λ e. (d.0 e).moves), d.1, own_does port_in locals (suc i) at j hops ps ts us d.2)
own_does port_in locals i at j hops [] [] (u ∷ us) d = absurd d
own_does port_in locals i at j hops [] (t ∷ ts) us d = absurd d
own_does port_in locals i at j hops (p ∷ ps) [] us d = absurd d
own_does port_in locals i at j hops (p ∷ ps) (t ∷ ts) [] d = absurd d

-- the calls at each port
abbrev calls_at : List Track → List (List Call)
calls_at ts = map (λ t. t.calls) ts

-- calls at a place, and some behind them
record More (i : ℕ) (cs ds : List (List Call)) : Type 0 where
  behind : List Call
  is : get_or ds i [] ≡ get_or cs i [] ++ behind

Grow : List (List Call) → List (List Call) → Type 0
Grow cs ds = (i : ℕ) → More i cs ds

grow_none : (cs : List (List Call)) → Grow cs cs
unfolding Grow
grow_none cs i = record { behind = []; is = sym (append_end (get_or cs i [])) }

grow_on : (cs ds es : List (List Call)) → Grow cs ds → Grow ds es → Grow cs es
unfolding Grow
grow_on cs ds es g h i = record { behind = (g i).behind ++ (h i).behind; is = (h i).is ∙ (ap (λ w. w ++ (h i).behind) (g i).is ∙ append_assoc (get_or cs i []) (g i).behind (h i).behind) }

does_grow : {P : Type 0} (port_in : P → PortSeen) (i at : ℕ) (j : Job) (ps : List P) (ts us : List Track) → DoesAt port_in i at j ps ts us → Grow (calls_at ts) (calls_at us)
unfolding Grow
does_grow port_in i at j [] [] [] d n = record { behind = []; is = refl }
does_grow port_in i at j (p ∷ ps) (t ∷ ts) (u ∷ us) d (suc n) = let later = does_grow port_in (suc i) at j ps ts us d.2 n in record { behind = later.behind; is = later.is }
does_grow port_in i at j (p ∷ ps) (t ∷ ts) (u ∷ us) d zero = by (ℕ_discrete i at)
  where
    by : Dec (i ≡ at) → More zero (calls_at (t ∷ ts)) (calls_at (u ∷ us))
    by (yes e) = let m = d.0 e in record { behind = m.call ∷ []; is = m.calls }
    by (no ne) = record { behind = []; is = ap (λ w. w.calls) (d.1 ne) ∙ sym (append_end t.calls) }
does_grow port_in i at j [] [] (u ∷ us) d n = absurd d
does_grow port_in i at j [] (t ∷ ts) us d n = absurd d
does_grow port_in i at j (p ∷ ps) [] us d n = absurd d
does_grow port_in i at j (p ∷ ps) (t ∷ ts) [] d n = absurd d

follows_grow : {P : Type 0} (port_in : P → PortSeen) (ps : List P) (hops : List jobs.Placed) (ts us : List Track) → Follows port_in ps hops ts us → Grow (calls_at ts) (calls_at us)
follows_grow port_in ps [] ts us f = subst (λ w. Grow (calls_at ts) (calls_at w)) (sym f) (grow_none (calls_at ts))
follows_grow port_in ps (h ∷ hops) ts us f = grow_on (calls_at ts) (calls_at f.0) (calls_at us) (does_grow port_in 0 h.0 h.1 ps ts f.0 f.1) (follows_grow port_in ps hops f.0 us f.2)

-- ---- what calls handed on

still_handed : (macs : List ℕ) (cs ds : List (List Call)) (j : jobs.Placed) (hops : List jobs.Placed) → Grow cs ds → HasHanded macs (get_or cs j.0 []) j hops → HasHanded macs (get_or ds j.0 []) j hops
unfolding Grow
still_handed macs cs ds j hops g h =
    let more = g j.0 in record {
      front = h.front;
      call = h.call;
      back = h.back ++ more.behind;
      is = more.is ∙ (ap (λ w. w ++ more.behind) h.is ∙ append_assoc h.front (h.call ∷ h.back) more.behind);
      job = h.job;
      hops_are = h.hops_are;
    }

still_all : (macs : List ℕ) (cs ds : List (List Call)) (js : List jobs.Placed) (hops : List (List jobs.Placed)) → Grow cs ds → HaveHanded macs cs js hops → HaveHanded macs ds js hops
still_all macs cs ds [] [] g h = tt
still_all macs cs ds (j ∷ js) (x ∷ hops) g h = (still_handed macs cs ds j x g h.0, still_all macs cs ds js hops g h.1)
still_all macs cs ds [] (x ∷ hops) g h = absurd h
still_all macs cs ds (j ∷ js) [] g h = absurd h

all_more : (macs : List ℕ) (cs : List (List Call)) (js : List jobs.Placed) (hops : List (List jobs.Placed)) (j : jobs.Placed) (x : List jobs.Placed) → HaveHanded macs cs js hops → HasHanded macs (get_or cs j.0 []) j x → HaveHanded macs cs (js ++ j ∷ []) (hops ++ x ∷ [])
all_more macs cs [] [] j x h one = (one, tt)
all_more macs cs (i ∷ js) (y ∷ hops) j x h one = (h.0, all_more macs cs js hops j x h.1 one)
all_more macs cs [] (y ∷ hops) j x h one = absurd h
all_more macs cs (i ∷ js) [] j x h one = absurd h

with_more : (macs : List ℕ) (cs : List (List Call)) (js : List jobs.Placed) (hops : List (List jobs.Placed)) (j : jobs.Placed) (x : List jobs.Placed) → HaveHanded macs cs js hops → (with_hops js hops ++ j ∷ []) ++ x ≡ with_hops (js ++ j ∷ []) (hops ++ x ∷ [])
with_more macs cs [] [] j x h = ap (λ w. j ∷ w) (sym (append_end x))
with_more macs cs (i ∷ js) (y ∷ hops) j x h =
    let later = with_more macs cs js hops j x h.1 in
    ap (λ w. i ∷ (w ++ x)) (append_assoc y (with_hops js hops) (j ∷ [])) ∙ (ap (λ w. i ∷ w) (append_assoc y (with_hops js hops ++ j ∷ []) x) ∙ ap (λ w. i ∷ (y ++ w)) later)
with_more macs cs [] (y ∷ hops) j x h = absurd h
with_more macs cs (i ∷ js) [] j x h = absurd h

-- the call at the job's place, and what it handed on
record Handing (macs : List ℕ) (place : ℕ) (j : Job) (hops : List jobs.Placed) (before calls : List Call) : Type 0 where
  call : Call
  calls_are : calls ≡ before ++ call ∷ []
  about : job_of call.deed ≡ j
  hands : handed_by macs place call.deed ≡ hops

at_the_place : {P : Type 0} (port_in : P → PortSeen) (locals : P → List ℕ) (macs : List ℕ) (i n at : ℕ) (j : Job) (hops : List jobs.Placed) (ps : List P) (ts us : List Track) → Each (λ p. locals p ≡ macs) ps → i + n ≡ at → n < length ps → DoesOn port_in locals i at j hops ps ts us
    → Handing macs at j hops (get_or (calls_at ts) n []) (get_or (calls_at us) n [])
at_the_place port_in locals macs i zero at j hops (p ∷ ps) (t ∷ ts) (u ∷ us) same e lt d =
    let here : i ≡ at = omega (arith, e) in
    let m : MovesOn (opening_of (port_in p)) (locals p) at j hops t u = d.0 here in
    record { call = m.moves.call; calls_are = m.moves.calls; about = m.moves.crosses.about; hands = subst (λ w. handed_by w at m.moves.call.deed ≡ hops) same.0 m.hands }
at_the_place port_in locals macs i (suc n) at j hops (p ∷ ps) (t ∷ ts) (u ∷ us) same e lt d = at_the_place port_in locals macs (suc i) n at j hops ps ts us same.1 (omega (arith, e)) (omega (arith, lt)) d.2
at_the_place port_in locals macs i n at j hops [] ts us same e lt d = absurd (omega (arith, lt))
at_the_place port_in locals macs i n at j hops (p ∷ ps) [] us same e lt d = absurd d
at_the_place port_in locals macs i n at j hops (p ∷ ps) (t ∷ ts) [] same e lt d = absurd d

-- ---- one more job, with what its call handed on

follows_work : {P : Type 0} (port_in : P → PortSeen) (k : ℕ) (j : Job) (place : ℕ) (ps : List P) (hs : List (List Event)) (hops : List jobs.Placed) (ts us : List Track) (done : List jobs.Placed) → IsOwn port_in j k ps → Each (IsHop place j) hops → AtWork 0 k (map port_in ps) hs ts done → Follows port_in ps hops ts us
    → AtWork 0 k (map port_in ps) hs us (done ++ hops)
follows_work port_in k j place ps hs [] ts us done own each w f = subst (λ v. AtWork 0 k (map port_in ps) hs v (done ++ [])) (sym f) (subst (AtWork 0 k (map port_in ps) hs ts) (sym (append_end done)) w)
follows_work port_in k j place ps hs (h ∷ hops) ts us done own each w f =
    let mine = own_at_all port_in k h.1 ps (own_on port_in k j h.1 ps each.0.doer own) in
    let on : AtWork 0 k (map port_in ps) hs f.0 (done ++ h ∷ []) = actor_goes_on 0 k h.0 h.1 (map port_in ps) hs ts f.0 done mine w (does_at port_in 0 h.0 h.1 ps ts f.0 f.1) in
    subst (AtWork 0 k (map port_in ps) hs us) (append_assoc done (h ∷ []) hops) (follows_work port_in k j place ps hs hops f.0 us (done ++ h ∷ []) own each.1 on f.2)

pub goes_on : {P : Type 0} (port_in : P → PortSeen) (locals : P → List ℕ) (k place : ℕ) (j : Job) (ps : List P) (hs : List (List Event)) (ts us : List Track) (done : List jobs.Placed) → AreAlike locals ps → IsOwn port_in j k ps → place < length ps → AtWorkOn (locals_at locals ps) k (map port_in ps) hs ts done
    → DoesAll port_in locals place j ps ts us → AtWorkOn (locals_at locals ps) k (map port_in ps) hs us (done ++ (place, j) ∷ [])
goes_on port_in locals k place j ps hs ts us done same own lt w d =
    let macs : List ℕ = locals_at locals ps in
    let does : DoesAt port_in 0 place j ps ts d.tracks = own_does port_in locals 0 place j d.hops ps ts d.tracks d.own in
    let from : 0 + place ≡ place = omega arith in
    let here : Handing macs place j d.hops (get_or (calls_at ts) place []) (get_or (calls_at d.tracks) place []) = at_the_place port_in locals macs 0 place place j d.hops ps ts d.tracks same from lt d.own in
    let hops : Each (IsHop place j) d.hops = subst (Each (IsHop place j)) here.hands (hops_own macs place here.call.deed j here.about) in
    let first : AtWork 0 k (map port_in ps) hs d.tracks (with_hops done w.hops ++ (place, j) ∷ []) = actor_goes_on 0 k place j (map port_in ps) hs ts d.tracks (with_hops done w.hops) (own_at_all port_in k j ps own) w.work (does_at port_in 0 place j ps ts d.tracks does) in
    let all : AtWork 0 k (map port_in ps) hs us ((with_hops done w.hops ++ (place, j) ∷ []) ++ d.hops) = follows_work port_in k j place ps hs d.hops d.tracks us (with_hops done w.hops ++ (place, j) ∷ []) own hops first d.on in
    let on : Grow (calls_at d.tracks) (calls_at us) = follows_grow port_in ps d.hops d.tracks us d.on in
    let one : HasHanded macs (get_or (calls_at d.tracks) place []) (place, j) d.hops = record { front = get_or (calls_at ts) place []; call = here.call; back = []; is = here.calls_are; job = here.about; hops_are = sym here.hands } in
    record {
      hops = w.hops ++ d.hops ∷ [];
      work = subst (AtWork 0 k (map port_in ps) hs us) (with_more macs (calls_at ts) done w.hops (place, j) d.hops w.handed) all;
      handed = all_more macs (calls_at us) done w.hops (place, j) d.hops (still_all macs (calls_at ts) (calls_at us) done w.hops (grow_on (calls_at ts) (calls_at d.tracks) (calls_at us) (does_grow port_in 0 place j ps ts d.tracks does) on) w.handed)
          (still_handed macs (calls_at d.tracks) (calls_at us) (place, j) d.hops on one);
    }

-- what a job does to lanes, as their tracks tell
abbrev pub DoneAll : {P S : Type 0} → (P → PortSeen) → (P → List ℕ) → (S → PassNow) → (S → List Call → Type 0) → ℕ → Job → List P → List (Lane S) → List (Lane S) → Type 0
DoneAll port_in locals pass_in tells place j ps ls ms = (ts : List Track) → AreTold port_in pass_in tells ps ls ts → (us : List Track) × AreTold port_in pass_in tells ps ms us × DoesAll port_in locals place j ps ts us

pub one_done : {J P S : Type 0} (port_in : P → PortSeen) (locals : P → List ℕ) (pass_in : S → PassNow) (job_in : J → Job) (tells : S → List Call → Type 0) (k : ℕ) (ps : List P) (ls ms : List (Lane S)) (n : ℕ) (js : List (Placed J)) (a : Placed J) → Next n js a → AreAlike locals ps → IsOwn port_in (job_in a.job) k ps → a.place < length ps
    → fronts_of pass_in ms ≡ fronts_of pass_in ls → DoneAll port_in locals pass_in tells a.place (job_in a.job) ps ls ms → HasDone port_in locals pass_in job_in tells k ps (fronts_of pass_in ls) ls (take n js) → HasDone port_in locals pass_in job_in tells k ps (fronts_of pass_in ms) ms (take (n + 1) js)
one_done port_in locals pass_in job_in tells k ps ls ms n js a e same own lt fronts does h =
    let d = does h.0 h.1 in
    let macs : List ℕ = locals_at locals ps in
    let work : AtWorkOn macs k (map port_in ps) (fronts_of pass_in ls) d.0 (map (placed_of job_in) (take n js) ++ placed_of job_in a ∷ []) = goes_on port_in locals k a.place (job_in a.job) ps (fronts_of pass_in ls) h.0 d.0 (map (placed_of job_in) (take n js)) same own lt h.2 d.2 in
    let done : map (placed_of job_in) (take n js) ++ placed_of job_in a ∷ [] ≡ map (placed_of job_in) (take (n + 1) js) = sym (ap (map (placed_of job_in)) (take_next n js a e) ∙ map_append (placed_of job_in) (take n js) (a ∷ [])) in
    (d.0, d.1, subst (λ hs. AtWorkOn macs k (map port_in ps) hs d.0 (map (placed_of job_in) (take (n + 1) js))) (sym fronts) (subst (AtWorkOn macs k (map port_in ps) (fronts_of pass_in ls) d.0) done work))
