-- What an actor of a round has done, and what it may do.
use Rattle.std.specs.Prelude.{◌≡◌, ◌<◌, ℕ, List, [], ◌∷◌, length, map, Bool, if◌then◌else◌}
use Rattle.vsw_policy.specs.Sound.{Each}
use Rattle.vsw_promise.specs.Ports.{PortSeen}
use Rattle.vsw_port.specs.declared.event.Event.{Event}
use Rattle.vsw_port.specs.Calls.{Job, Call}
use Rattle.vsw_promise.specs.Jobs as jobs
use Rattle.vsw_promise.specs.Rounds.{opening_of}
use Rattle.vsw_hairpin.specs.Handing.{HaveHanded, with_hops}
use Rattle.vsw_many.specs.Passes.{PassNow, AtRest}
use Rattle.vsw_many.specs.Phases.{Track}
use Rattle.vsw_many.specs.Actors.{AtWork}
use Rattle.vsw_actors.specs.declared.actor.Placed.{Placed}
use Rattle.vsw_actors.specs.declared.lane.Lane.{Lane}
use Rattle.vsw_actors.specs.Lanes.{AreTold, DoesAt, DoesOn, IsTaken, IsOwn}

-- a job with its place, as definitions know it
abbrev pub placed_of : {J : Type 0} → (J → Job) → Placed J → jobs.Placed
placed_of job_in a = (a.place, job_in a.job)

-- lanes of actor k at rest, as a round begins: each has counted what its pass has seen, and no call is told yet
abbrev pub Begins : {P S : Type 0} → (P → PortSeen) → (S → PassNow) → (S → List Call → Type 0) → ℕ → List P → List (Lane S) → Type 0
Begins port_in pass_in tells k [] [] = Unit {0}
Begins port_in pass_in tells k (p ∷ ps) (l ∷ ls) = (l.base ≡ length (pass_in l.station).front) × AtRest (opening_of (port_in p)) (pass_in l.station).front k (pass_in l.station) × tells l.station [] × Begins port_in pass_in tells k ps ls
Begins port_in pass_in tells k _ _ = ⊥

-- jobs that actor k may do: each is its own, and at the place of one of these ports, which takes it
abbrev pub AreMine : {J P : Type 0} → (P → PortSeen) → (J → Job) → (P → ℕ → J → Type 0) → ℕ → List P → List (Placed J) → Type 0
AreMine port_in job_in takes k ps js = Each (λ a. IsOwn port_in (job_in a.job) k ps × IsTaken takes 0 a.place a.job ps × (a.place < length ps)) js

-- ---- packets that are handed on

-- the addresses of the ports to which the first of these ports hands packets on
abbrev pub locals_at : {P : Type 0} → (P → List ℕ) → List P → List ℕ
locals_at locals [] = []
locals_at locals (p ∷ ps) = locals p

-- all of these ports hand packets on to the same ones
abbrev pub AreAlike : {P : Type 0} → (P → List ℕ) → List P → Type 0
AreAlike locals ps = Each (λ p. locals p ≡ locals_at locals ps) ps

-- a parcel has room for what any of these ports hands on
abbrev pub IsRoomy : {J P Q : Type 0} → (P → J → Q → Type 0) → List P → Q → Type 0
IsRoomy {J} fits ps q = Each (λ p. (j : J) → fits p j q) ps

-- what a call handed on: what a parcel holds, if it handed anything on
abbrev pub handed : Bool → jobs.Placed → List jobs.Placed
handed was h = if was then h ∷ [] else []

-- these jobs are done one after the other, each at the port at its place
abbrev pub Follows : {P : Type 0} → (P → PortSeen) → List P → List jobs.Placed → List Track → List Track → Type 0
Follows port_in ps [] ts us = us ≡ ts
Follows port_in ps (h ∷ hops) ts us = (vs : List Track) × DoesAt port_in 0 h.0 h.1 ps ts vs × Follows port_in ps hops vs us

-- a job is done at the port at its place, and then, at once, what its call handed on
pub record DoesAll {P : Type 0} (port_in : P → PortSeen) (locals : P → List ℕ) (place : ℕ) (j : Job) (ps : List P) (ts us : List Track) : Type 0 where
  pub hops : List jobs.Placed
  pub tracks : List Track
  pub own : DoesOn port_in locals 0 place j hops ps ts tracks
  pub on : Follows port_in ps hops tracks us

-- caller k at work at ports that hand packets on to these: since the ports had these histories it has done these jobs, and after each of them
-- what its call handed on
pub record AtWorkOn (macs : List ℕ) (k : ℕ) (ps : List PortSeen) (hs : List (List Event)) (ts : List Track) (done : List jobs.Placed) : Type 0 where
  pub hops : List (List jobs.Placed)
  pub work : AtWork 0 k ps hs ts (with_hops done hops)
  pub handed : HaveHanded macs (map (λ t. t.calls) ts) done hops

-- ---- what was done

-- lanes of actor k, which has done these jobs since the ports had these histories, and after each of them what its call handed on: each station
-- tells the calls at its port
abbrev pub HasDone : {J P S : Type 0} → (P → PortSeen) → (P → List ℕ) → (S → PassNow) → (J → Job) → (S → List Call → Type 0) → ℕ → List P → List (List Event) → List (Lane S) → List (Placed J) → Type 0
HasDone port_in locals pass_in job_in tells k ps hs ls done = (ts : List Track) × AreTold port_in pass_in tells ps ls ts × AtWorkOn (locals_at locals ps) k (map port_in ps) hs ts (map (placed_of job_in) done)
