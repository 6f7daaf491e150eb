-- What callers do at a port between two moments at which all passes have met it, and a round of a port.
use Rattle.std.specs.Prelude.{◌≡◌, ◌<◌, ◌-◌, ℕ, suc, List, [], ◌∷◌, length, map}
use Rattle.std.specs.List.{flat_map}
use mathlib.Core.List.{IsPrefix}
use Rattle.vsw_policy.specs.Sound.{Each}
use Rattle.vsw_promise.specs.Ports.{PortSeen}
use Rattle.vsw_report.specs.declared.round.PortRound.{PortRound}
use Rattle.vsw_port.specs.declared.event.Event.{Event}
use Rattle.vsw_port.specs.Calls.{Job, Call, job_of, jobs_by, doer, named, calls_of, InOrder}
use Rattle.vsw_port.specs.History.{Opening, AllRight}
use Rattle.vsw_promise.specs.Jobs.{Jobs}
use Rattle.vsw_promise.specs.Rounds.{opening_of}
use Rattle.vsw_promise.specs.Told.{lines_of}
use Rattle.vsw_many.specs.Passes.{PassNow, AtRest, Works, Meets}

-- ---- a pass in a phase

-- a pass at work: as it was at rest, as it is, and its calls since
pub record Track : Type 0 where
  pub start : PassNow
  pub now : PassNow
  pub calls : List Call

-- the track of caller k since its pass rested at a history: all calls are the caller's
pub record IsTrack (o : Opening) (h : List Event) (k : ℕ) (t : Track) : Type 0 where
  pub rest : AtRest o h k t.start
  pub works : Works o t.start t.now t.calls
  pub own : Each (λ c. doer o.controllers c.deed ≡ k) t.calls

-- a track to its end, and its pass when it has met the port
pub record Lane : Type 0 where
  pub track : Track
  pub met : PassNow

-- the lane of caller k, while the history grew from one to another
pub record IsLane (o : Opening) (h g : List Event) (k : ℕ) (l : Lane) : Type 0 where
  pub is : IsTrack o h k l.track
  pub meets : Meets o g l.track.now l.met

-- a lane for each caller, from this number on
abbrev pub AreLanes : Opening → List Event → List Event → ℕ → List Lane → Type 0
AreLanes o h g k [] = Unit {0}
AreLanes o h g k (l ∷ ls) = IsLane o h g k l × AreLanes o h g (suc k) ls

-- the calls of all lanes, lane after lane
abbrev pub calls_in : List Lane → List Call
calls_in ls = flat_map (λ l. l.track.calls) ls

-- ---- a phase

-- the passes of all callers rested at one history, worked, and met the port at another. Each has a lane, idle or not, and each entry names one of them
pub record IsPhase (o : Opening) (h g : List Event) (ls : List Lane) : Type 0 where
  pub right : AllRight o g
  pub grows : IsPrefix h g
  pub lanes : AreLanes o h g 0 ls
  pub named_all : Each (λ e. named o.controllers e < length ls) g

-- the same calls of each caller, in its order
abbrev pub SameByCaller : List ℕ → List Call → List Call → Type 0
SameByCaller cs xs ys = (k : ℕ) → calls_of cs k xs ≡ calls_of cs k ys

-- jobs done in turn, as these calls: they are those of the lanes, and from one call to the next, whoever made it, counts never fall and rise after an entry
pub record DoneInTurn (o : Opening) (h g : List Event) (ls : List Lane) (jobs : List Job) (calls : List Call) : Type 0 where
  pub jobs_are : map (λ c. job_of c.deed) calls ≡ jobs
  pub same : SameByCaller o.controllers calls (calls_in ls)
  pub in_order : InOrder (length h) calls (length g)

-- jobs done beside each other: each caller has done its own of them, in their order
abbrev pub DoneBeside : Opening → List Lane → List Job → Type 0
DoneBeside o ls jobs = (k : ℕ) → map (λ c. job_of c.deed) (calls_of o.controllers k (calls_in ls)) ≡ jobs_by o.controllers k jobs

-- ---- a round of a port

-- its history grew from one to another by the first calls and the later ones
pub record PortDone (workers : ℕ) (p : PortSeen) (h g : List Event) (jobs : Jobs) (first later : List Call) : Type 0 where
  -- the "before" commands were done in turn
  pub middle : List Event
  pub firsts : List Lane
  pub first_phase : IsPhase (opening_of p) h middle firsts
  pub first_done : DoneInTurn (opening_of p) h middle firsts jobs.first first
  -- then all else was done beside each other
  pub lasts : List Lane
  pub last_phase : IsPhase (opening_of p) middle g lasts
  pub last_done : DoneBeside (opening_of p) lasts jobs.later
  pub same : SameByCaller p.controllers later (calls_in lasts)
  -- with one worker that was done in turn too
  pub alone : workers ≡ 1 → DoneInTurn (opening_of p) middle g lasts jobs.later later

-- what a report tells of a port whose history grew from one to another by these calls
abbrev pub port_told : PortSeen → List Event → List Event → List Call → PortRound
port_told p h g calls = record { port = p.number; before = length h; after = length g; lines = lines_of p.controllers calls (length h) (length g - length h) }
