-- The callers of a round when all have met the ports: what each has seen, and what it tells of the round so far.
use Rattle.std.specs.Prelude.{◌≡◌, ◌≤◌, ℕ, suc, List, [], ◌∷◌, length, map, true}
use Rattle.vsw_dock.specs.Lane.{Lane}
use Rattle.vsw_flows.specs.Flows.{IsOf}
use Rattle.vsw_dock.specs.Docks.{pass_in, port_in, tells}
use Rattle.vsw_dock.specs.Seen.{DockSeen, StationSeen}
use Rattle.vsw_port.specs.Calls.{Call, calls_of}
use Rattle.vsw_port.specs.declared.event.Event.{Event}
use Rattle.vsw_dock.specs.Passes.{AtRest}
use Rattle.vsw_policy.specs.Sound.{Each}
use Rattle.vsw_promise.specs.Rounds.{opening_of}

-- caller k's lane at a port: its pass has seen this whole history, and the station tells these calls
pub record Stands (k : ℕ) (d : DockSeen) (h : List Event) (calls : List Call) (l : Lane StationSeen) : Type 0 where
  pub of : IsOf d.live.looking l.station.pass
  pub rest : AtRest (opening_of (port_in d)) h k (pass_in l.station)
  pub base : l.base ≡ length h
  pub told : tells l.station calls

-- caller k's row of lanes, one a port: of all these calls at each port it tells its own
abbrev pub RowStands : ℕ → List DockSeen → List (List Event) → List (List Call) → List (Lane StationSeen) → Type 0
RowStands k [] [] [] [] = Unit {0}
RowStands k (d ∷ ds) (h ∷ hs) (c ∷ cs) (l ∷ ls) = Stands k d h (calls_of (port_in d).controllers k c) l × RowStands k ds hs cs ls
RowStands k _ _ _ _ = ⊥

-- the rows of all callers, from caller k on
abbrev pub RowsStand : ℕ → List DockSeen → List (List Event) → List (List Call) → List (List (Lane StationSeen)) → Type 0
RowsStand k ds hs calls [] = Unit {0}
RowsStand k ds hs calls (r ∷ rs) = RowStands k ds hs calls r × RowsStand (suc k) ds hs calls rs

-- each of a row's stations may make so many entries
abbrev pub RowMay : ℕ → List (Lane StationSeen) → Type 0
RowMay more row = Each (λ l. more ≤ l.station.pass.view.permits) row

abbrev pub RowsMay : List ℕ → List (List (Lane StationSeen)) → Type 0
RowsMay [] [] = Unit {0}
RowsMay (n ∷ ns) (r ∷ rs) = RowMay n r × RowsMay ns rs
RowsMay _ _ = ⊥

-- all that was done is told
abbrev pub IsWhole : List (Lane StationSeen) → Type 0
IsWhole row = Each (λ l. l.station.whole ≡ true) row

-- no calls, at each port
abbrev pub no_calls : List DockSeen → List (List Call)
no_calls ds = map (λ d. []) ds
