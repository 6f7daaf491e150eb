-- What stations know that meet their ports.
use Rattle.std.specs.Prelude.{◌≡◌, ◌≤◌, ◌<◌, ℕ, List, [], ◌∷◌, length}
use Rattle.vsw_flows.specs.Flows.{IsOf}
use Rattle.vsw_port.specs.declared.event.Event.{Event}
use Rattle.vsw_port.specs.Calls.{named}
use Rattle.vsw_live.specs.Meeting.{HeldSeen, IsRightAt}
use Rattle.vsw_actors.specs.Passes.{Meets, PassNow}
use Rattle.vsw_policy.specs.Sound.{Each}
use Rattle.vsw_rows.specs.GoodRows.{opening_of}
use Rattle.vsw_actors.specs.declared.lane.Lane.{Lane}
use Rattle.vsw_dock.specs.Docks.{pass_in}
use Rattle.vsw_dock.specs.Seen.{DockSeen, StationSeen}

-- these are the ports of the docks, their locks held, in order
abbrev pub AreHeld : List DockSeen → List HeldSeen → Type 0
AreHeld [] [] = Unit {0}
AreHeld (d ∷ ds) (h ∷ hs) = (h.port ≡ d.live) × AreHeld ds hs
AreHeld _ _ = ⊥

-- lanes of a caller, one a port
abbrev pub AreLanes : List HeldSeen → List (Lane StationSeen) → Type 0
AreLanes [] [] = Unit {0}
AreLanes (h ∷ hs) (l ∷ ls) = IsOf h.port.looking l.station.pass × AreLanes hs ls
AreLanes _ _ = ⊥

-- a station's pass met the port: it has seen the whole history, each entry of which is right and names one of the port's passes. It has at least
-- so many permits, and its lines are as they were
pub record StationMeets (more : ℕ) (h : HeldSeen) (r s : StationSeen) : Type 0 where
  pub of : IsOf h.port.looking s.pass
  pub meets : Meets (opening_of h.port.looking.1) h.history (pass_in r) (pass_in s)
  pub room : more ≤ s.pass.view.permits
  pub lines : s.lines ≡ r.lines
  pub whole : s.whole ≡ r.whole
  pub right : IsRightAt h
  pub named : Each (λ e. named h.port.looking.1.controllers e < h.port.passes) h.history

-- the same of a lane, which counts what its pass has seen
pub record LaneMeets (more : ℕ) (h : HeldSeen) (l m : Lane StationSeen) : Type 0 where
  pub station : StationMeets more h l.station m.station
  pub base : m.base ≡ length h.history

abbrev pub RowMeets : ℕ → List HeldSeen → List (Lane StationSeen) → List (Lane StationSeen) → Type 0
RowMeets more [] [] [] = Unit {0}
RowMeets more (h ∷ hs) (l ∷ ls) (m ∷ ms) = LaneMeets more h l m × RowMeets more hs ls ms
RowMeets more _ _ _ = ⊥

-- lanes of the caller of this number
abbrev pub AreOfCaller : ℕ → List (Lane StationSeen) → Type 0
AreOfCaller k [] = Unit {0}
AreOfCaller k (l ∷ ls) = (l.station.pass.view.number ≡ k) × AreOfCaller k ls

-- no station has lines
abbrev pub HaveNoLines : List (Lane StationSeen) → Type 0
HaveNoLines [] = Unit {0}
HaveNoLines (l ∷ ls) = (l.station.lines ≡ []) × HaveNoLines ls

-- what the passes of lanes are now
abbrev pub passes_in : List (Lane StationSeen) → List PassNow
passes_in [] = []
passes_in (l ∷ ls) = pass_in l.station ∷ passes_in ls

-- the histories that stand still
abbrev pub histories_of : List HeldSeen → List (List Event)
histories_of [] = []
histories_of (h ∷ hs) = h.history ∷ histories_of hs
