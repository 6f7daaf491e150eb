-- The callers of a round at work.
use Rattle.std.specs.Prelude.{◌≡◌, ℕ, suc, List, [], ◌∷◌, ◌++◌}
use Rattle.vsw_dock.specs.Lane.{Lane}
use Rattle.vsw_flows.specs.Flows.{IsOf}
use Rattle.vsw_dock.specs.ActorsDone.{AtWorkOn}
use Rattle.vsw_dock.specs.Docks.{pass_in, port_in, tells}
use Rattle.vsw_dock.specs.Seen.{DockSeen, StationSeen}
use Rattle.vsw_port.specs.Calls.{Call, Job, calls_of, job_doer}
use Rattle.vsw_port.specs.declared.event.Event.{Event}
use Rattle.vsw_dock.specs.Phases.{Track}
use Rattle.vsw_promise.specs.Jobs.{Placed}
use Rattle.vsw_many.specs.Dealing.{deal}
use Rattle.vsw_harbour.specs.Harbour.{HarbourSeen, locals_in, ports_in}
use Rattle.vsw_harbour.specs.Standing.{RowStands, RowsStand}

-- a lane on this track: the pass is where the track is, and the station tells these calls and then the track's
pub record IsWorking (d : DockSeen) (told : List Call) (t : Track) (l : Lane StationSeen) : Type 0 where
  pub of : IsOf d.live.looking l.station.pass
  pub now : t.now ≡ pass_in l.station
  pub tells_all : tells l.station (told ++ t.calls)

abbrev pub AreWorking : ℕ → List DockSeen → List (List Call) → List Track → List (Lane StationSeen) → Type 0
AreWorking k [] [] [] [] = Unit {0}
AreWorking k (d ∷ ds) (c ∷ cs) (t ∷ ts) (l ∷ ls) = IsWorking d (calls_of (port_in d).controllers k c) t l × AreWorking k ds cs ts ls
AreWorking k _ _ _ _ = ⊥

-- caller k has done these jobs, and after each of them what its call handed on, since all stood at these histories, where of these calls its own
-- were told
pub record RowWorks (k : ℕ) (ds : List DockSeen) (hs : List (List Event)) (calls : List (List Call)) (row : List (Lane StationSeen)) (done : List Placed) : Type 0 where
  pub tracks : List Track
  pub work : AtWorkOn (locals_in ds) k (ports_in ds) hs tracks done
  pub lanes : AreWorking k ds calls tracks row

-- all callers, from caller k on, have done their own of these jobs
abbrev pub RowsWork : List ℕ → ℕ → List DockSeen → List (List Event) → List (List Call) → List Placed → List (List (Lane StationSeen)) → Type 0
RowsWork cs k ds hs calls jobs [] = Unit {0}
RowsWork cs k ds hs calls jobs (r ∷ rs) = RowWorks k ds hs calls r (deal cs k jobs) × RowsWork cs (suc k) ds hs calls jobs rs

-- ---- what is done since all stood somewhere

-- wherever all stood, caller k, whose row was the first of these, has done this job, and its row is the other
abbrev pub RowDoes : ℕ → List DockSeen → Placed → List (Lane StationSeen) → List (Lane StationSeen) → Type 0
RowDoes k ds job row after = (hs : List (List Event)) (calls : List (List Call)) → RowStands k ds hs calls row → RowWorks k ds hs calls after (job ∷ [])

-- the same of the rows of all callers, from caller `at` on, of whom the one whose job it is does it at the port at this place
abbrev pub CallerDoes : (at caller : ℕ) → List DockSeen → (place : ℕ) → Job → List (List (Lane StationSeen)) → List (List (Lane StationSeen)) → Type 0
CallerDoes at caller ds place j rows after =
    (cs : List ℕ) (hs : List (List Event)) (calls : List (List Call)) → job_doer cs j ≡ caller → RowsStand at ds hs calls rows → RowsWork cs at ds hs calls ((place, j) ∷ []) after

-- and of all callers of a harbour, and these jobs
abbrev pub AllDo : HarbourSeen → List Placed → List (List (Lane StationSeen)) → List (List (Lane StationSeen)) → Type 0
AllDo h jobs rows after = (hs : List (List Event)) (calls : List (List Call)) → RowsStand 0 h.docks hs calls rows → RowsWork h.controllers 0 h.docks hs calls jobs after
