-- The lanes of an actor, one a port.
use Rattle.std.specs.Prelude.{◌≡◌, ◌≢◌, ◌≤◌, ◌<◌, ◌+◌, ℕ, suc, List, [], ◌∷◌, ◌++◌, length, take}
use Rattle.vsw_port.specs.declared.event.Event.{Event}
use Rattle.vsw_port.specs.Calls.{Job, Call, job_doer, entries_naming}
use Rattle.vsw_port.specs.History.{Opening}
use Rattle.vsw_promise.specs.Jobs.{Placed}
use Rattle.vsw_promise.specs.Ports.{PortSeen}
use Rattle.vsw_promise.specs.Rounds.{opening_of}
use Rattle.vsw_hairpin.specs.Handing.{handed_by}
use Rattle.vsw_many.specs.Actors.{Moves}
use Rattle.vsw_many.specs.Passes.{PassNow, Crosses}
use Rattle.vsw_many.specs.Phases.{Track}
use Rattle.vsw_actors.specs.declared.lane.Lane.{Lane}

-- ---- what a lane has done

-- a pass as it rested, when it had seen so many entries
abbrev pub start_of : List ℕ → ℕ → PassNow → PassNow
start_of cs base p = record { number = p.number; front = take base p.front; receipts = entries_naming cs p.number (take base p.front) }

-- the history on which a lane began
abbrev pub front_of : {S : Type 0} → (S → PassNow) → Lane S → List Event
front_of pass_in l = take l.base (pass_in l.station).front

abbrev pub fronts_of : {S : Type 0} → (S → PassNow) → List (Lane S) → List (List Event)
fronts_of pass_in [] = []
fronts_of pass_in (l ∷ ls) = front_of pass_in l ∷ fronts_of pass_in ls

-- a track is that of a lane: it leads from the pass as it rested to the pass as it is, and the station tells its calls
pub record IsTold {S : Type 0} (pass_in : S → PassNow) (tells : S → List Call → Type 0) (cs : List ℕ) (l : Lane S) (t : Track) : Type 0 where
  pub start : t.start ≡ start_of cs l.base (pass_in l.station)
  pub now : t.now ≡ pass_in l.station
  pub calls : tells l.station t.calls

abbrev pub AreTold : {P S : Type 0} → (P → PortSeen) → (S → PassNow) → (S → List Call → Type 0) → List P → List (Lane S) → List Track → Type 0
AreTold port_in pass_in tells [] [] [] = Unit {0}
AreTold port_in pass_in tells (p ∷ ps) (l ∷ ls) (t ∷ ts) = IsTold pass_in tells (port_in p).controllers l t × AreTold port_in pass_in tells ps ls ts
AreTold port_in pass_in tells _ _ _ = ⊥

-- whichever track is that of a lane at a port as it was, one that it leads to so is that of the lane as it is
abbrev pub IsLedOn : {P S : Type 0} → (P → PortSeen) → (S → PassNow) → (S → List Call → Type 0) → P → (Track → Track → Type 0) → Lane S → Lane S → Type 0
IsLedOn port_in pass_in tells p on l m = (t : Track) → IsTold pass_in tells (port_in p).controllers l t → (u : Track) × IsTold pass_in tells (port_in p).controllers m u × on t u

-- the same of the tracks of lanes, one a port
abbrev pub AreLedOn : {P S : Type 0} → (P → PortSeen) → (S → PassNow) → (S → List Call → Type 0) → List P → (List Track → List Track → Type 0) → List (Lane S) → List (Lane S) → Type 0
AreLedOn port_in pass_in tells ps on ls ms = (ts : List Track) → AreTold port_in pass_in tells ps ls ts → (us : List Track) × AreTold port_in pass_in tells ps ms us × on ts us

-- ---- what a job does

-- a pass does a job, and its station tells the call
abbrev pub CrossesTold : {S : Type 0} → (S → PassNow) → (S → List Call → Type 0) → Opening → Job → S → S → Type 0
CrossesTold pass_in tells o j r s = (c : Call) × Crosses o (pass_in r) (pass_in s) j c × ((calls : List Call) → tells r calls → tells s (calls ++ c ∷ []))

-- and the call hands this on, from this place to ports of these addresses
abbrev pub CrossesOn : {S : Type 0} → (S → PassNow) → (S → List Call → Type 0) → Opening → List ℕ → ℕ → Job → List Placed → S → S → Type 0
CrossesOn pass_in tells o macs place j hops r s = (c : Call) × Crosses o (pass_in r) (pass_in s) j c × ((calls : List Call) → tells r calls → tells s (calls ++ c ∷ [])) × (handed_by macs place c.deed ≡ hops)

-- one more job on a track of a port at this place, whose call hands this on to ports of these addresses
pub record MovesOn (o : Opening) (macs : List ℕ) (place : ℕ) (j : Job) (hops : List Placed) (t u : Track) : Type 0 where
  pub moves : Moves o j t u
  pub hands : handed_by macs place moves.call.deed ≡ hops

-- at the port at this place, where the first has the place `at`, a track is led on so, and at the others nothing is done
abbrev pub Leads : {P : Type 0} → (P → Track → Track → Type 0) → ℕ → ℕ → List P → List Track → List Track → Type 0
Leads on at place [] [] [] = Unit {0}
Leads on at place (p ∷ ps) (t ∷ ts) (u ∷ us) = ((at ≡ place) → on p t u) × ((at ≢ place) → u ≡ t) × Leads on (suc at) place ps ts us
Leads on at place _ _ _ = ⊥

-- a job is done at the port at its place
abbrev pub DoesAt : {P : Type 0} → (P → PortSeen) → ℕ → ℕ → Job → List P → List Track → List Track → Type 0
DoesAt port_in at place j = Leads (λ p. Moves (opening_of (port_in p)) j) at place

-- and its call hands this on
abbrev pub DoesOn : {P : Type 0} → (P → PortSeen) → (P → List ℕ) → ℕ → ℕ → Job → List Placed → List P → List Track → List Track → Type 0
DoesOn port_in locals at place j hops = Leads (λ p. MovesOn (opening_of (port_in p)) (locals p) place j hops) at place

-- a lane at a port, which has this place, does a job, whose call hands this on
abbrev pub Works : {P S : Type 0} → (P → PortSeen) → (P → List ℕ) → (S → PassNow) → (S → List Call → Type 0) → P → ℕ → Job → List Placed → Lane S → Lane S → Type 0
Works port_in locals pass_in tells p place j hops l m = IsLedOn port_in pass_in tells p (MovesOn (opening_of (port_in p)) (locals p) place j hops) l m

-- the same of lanes, of which the one at the port at this place does it, where the first has the place `at`
abbrev pub WorksAt : {P S : Type 0} → (P → PortSeen) → (P → List ℕ) → (S → PassNow) → (S → List Call → Type 0) → List P → (at place : ℕ) → Job → List Placed → List (Lane S) → List (Lane S) → Type 0
WorksAt port_in locals pass_in tells ps at place j hops ls ms = AreLedOn port_in pass_in tells ps (DoesOn port_in locals at place j hops ps) ls ms

-- what a job at this place handed on: the job of the same caller at another place
pub record IsHop (place : ℕ) (j : Job) (h : Placed) : Type 0 where
  pub other : h.0 ≢ place
  pub doer : (cs : List ℕ) → job_doer cs h.1 ≡ job_doer cs j

-- ---- what a lane may do

-- a lane of actor k at a port, with room for so many entries more
pub record IsFit {P S : Type 0} (pass_in : S → PassNow) (is_of : P → S → Type 0) (permits : S → ℕ) (k more : ℕ) (p : P) (l : Lane S) : Type 0 where
  pub station : is_of p l.station
  pub number : (pass_in l.station).number ≡ k
  pub based : l.base ≤ length (pass_in l.station).front
  pub room : more ≤ permits l.station

abbrev pub AreFit : {P S : Type 0} → (S → PassNow) → (P → S → Type 0) → (S → ℕ) → ℕ → ℕ → List P → List (Lane S) → Type 0
AreFit pass_in is_of permits k more [] [] = Unit {0}
AreFit pass_in is_of permits k more (p ∷ ps) (l ∷ ls) = IsFit pass_in is_of permits k more p l × AreFit pass_in is_of permits k more ps ls
AreFit pass_in is_of permits k more _ _ = ⊥

-- the same, with room for one more yet, but in the lane at this place, where the first has the place `at`
abbrev pub AreFitBut : {P S : Type 0} → (S → PassNow) → (P → S → Type 0) → (S → ℕ) → ℕ → ℕ → ℕ → ℕ → List P → List (Lane S) → Type 0
AreFitBut pass_in is_of permits k more at place [] [] = Unit {0}
AreFitBut pass_in is_of permits k more at place (p ∷ ps) (l ∷ ls) =
    IsFit pass_in is_of permits k more p l × ((at ≢ place) → IsFit pass_in is_of permits k (more + 1) p l) × AreFitBut pass_in is_of permits k more (suc at) place ps ls
AreFitBut pass_in is_of permits k more at place _ _ = ⊥

-- whoever's the lanes are, they keep room for one entry less
abbrev pub Spends : {P S : Type 0} → (S → PassNow) → (P → S → Type 0) → (S → ℕ) → List P → List (Lane S) → List (Lane S) → Type 0
Spends pass_in is_of permits ps ls ms = (k more : ℕ) → AreFit pass_in is_of permits k (more + 1) ps ls → AreFit pass_in is_of permits k more ps ms

-- the lane at a place alone keeps room for one entry less
abbrev pub SpendsAt : {P S : Type 0} → (S → PassNow) → (P → S → Type 0) → (S → ℕ) → (at place : ℕ) → List P → List (Lane S) → List (Lane S) → Type 0
SpendsAt pass_in is_of permits at place ps ls ms = (k more : ℕ) → AreFit pass_in is_of permits k (more + 1) ps ls → AreFitBut pass_in is_of permits k more at place ps ms

-- and so does then the lane at this place, which had room for one more yet, since the first job was done at another
abbrev pub SpendsNext : {P S : Type 0} → (S → PassNow) → (P → S → Type 0) → (S → ℕ) → (at place : ℕ) → List P → List (Lane S) → List (Lane S) → Type 0
SpendsNext pass_in is_of permits at place ps ls ms =
    (k more from : ℕ) → place ≢ from → AreFitBut pass_in is_of permits k more at from ps ls → AreFit pass_in is_of permits k more ps ms

-- a lane that may do this job at a port
pub record IsUsable {P S : Type 0} (port_in : P → PortSeen) (pass_in : S → PassNow) (is_of : P → S → Type 0) (permits : S → ℕ) (j : Job) (p : P) (l : Lane S) : Type 0 where
  pub station : is_of p l.station
  pub own : job_doer (port_in p).controllers j ≡ (pass_in l.station).number
  pub based : l.base ≤ length (pass_in l.station).front
  pub permit : 0 < permits l.station

-- the lane at this place, if it is among these, from the place `at` on, may
abbrev pub IsReady : {P S : Type 0} → (P → PortSeen) → (S → PassNow) → (P → S → Type 0) → (S → ℕ) → ℕ → ℕ → Job → List P → List (Lane S) → Type 0
IsReady port_in pass_in is_of permits at place j (p ∷ ps) (l ∷ ls) = ((at ≡ place) → IsUsable port_in pass_in is_of permits j p l) × IsReady port_in pass_in is_of permits (suc at) place j ps ls
IsReady port_in pass_in is_of permits at place j _ _ = Unit {0}

-- the port at this place, if it is among these, from the place `at` on, takes the job
abbrev pub IsTaken : {J P : Type 0} → (P → ℕ → J → Type 0) → ℕ → ℕ → J → List P → Type 0
IsTaken takes at place j [] = Unit {0}
IsTaken takes at place j (p ∷ ps) = ((at ≡ place) → takes p place j) × IsTaken takes (suc at) place j ps

-- the job is the actor's, at whatever port
abbrev pub IsOwn : {P : Type 0} → (P → PortSeen) → Job → ℕ → List P → Type 0
IsOwn port_in j k [] = Unit {0}
IsOwn port_in j k (p ∷ ps) = (job_doer (port_in p).controllers j ≡ k) × IsOwn port_in j k ps
