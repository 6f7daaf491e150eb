-- Ports are opened, and each caller has a station at each.
use Rattle.std.specs.Prelude.{◌≡◌, ◌≤◌, ℕ, zero, suc, List, [], ◌∷◌, ◌++◌, length, map, drop, true, Vec}
use Rattle.vsw_actors.specs.declared.lane.Lane.{Lane}
use Rattle.vsw_live.specs.Ports.{AreNewPasses, IsNewPass, OpenSeen}
use Rattle.vsw_live.specs.Ports as live
use Rattle.vsw_policy.specs.Sound.{Each}
use Rattle.vsw_port.specs.Core.{AreAtMost}
use Rattle.vsw_promise.specs.declared.port.Port.{Port}
use Rattle.vsw_flows.specs.Flows.{Writing}
use Rattle.vsw_dock.specs.Seen.{DockSeen, StationSeen}

-- a port of the policy can be opened: none of its layers has made a pair, and its rows are as many as a policy may give
pub record CanOpen (p : Port) : Type 0 where
  pub fresh : AreAtMost 0 p.policy.layers
  pub rows : (8 ≤ p.rows) × (p.rows ≤ 16384)

-- a port of the policy was opened, with so many passes
pub record IsOpened (count : ℕ) (p : Port) (o : OpenSeen) : Type 0 where
  pub begins : o.port.looking.1 ≡ p.policy
  pub rows : o.port.looking.2 ≡ p.rows
  pub passes : o.port.passes ≡ count
  pub many : length o.passes ≡ count
  pub new : AreNewPasses o.port.looking 0 o.passes

abbrev pub AreOpened : ℕ → List Port → List OpenSeen → Type 0
AreOpened count [] [] = Unit {0}
AreOpened count (p ∷ ps) (o ∷ os) = IsOpened count p o × AreOpened count ps os
AreOpened count _ _ = ⊥

-- docks with these numbers, addresses and ports, which hand packets on to the ports of some addresses
abbrev pub docks_of : List ℕ → List ℕ → List ℕ → List live.PortSeen → List DockSeen
docks_of locals (n ∷ ns) (m ∷ ms) (p ∷ ps) = record { number = n; mac = m; locals = locals; live = p } ∷ docks_of locals ns ms ps
docks_of locals _ _ _ = []

-- those of the policy's ports, as they were opened
abbrev pub docks_for : List ℕ → List Port → List OpenSeen → List DockSeen
docks_for locals made os = docks_of locals (map (λ p. p.number) made) (map (λ p. p.mac) made) (live.ports_of os)

-- a lane whose station has only its pass, which has seen nothing
abbrev pub new_lane : Writing → Lane StationSeen
new_lane p = record { station = record { pass = p; lines = []; whole = true }; base = 0 }

-- a lane of the first pass of a port, if it has one
abbrev pub first_lane : List Writing → List (Lane StationSeen)
first_lane [] = []
first_lane (p ∷ ps) = new_lane p ∷ []

-- a lane of the first pass of each port, and the passes behind them
abbrev pub first_lanes : List (List Writing) → List (Lane StationSeen)
first_lanes [] = []
first_lanes (ps ∷ pss) = first_lane ps ++ first_lanes pss

abbrev pub later_passes : List (List Writing) → List (List Writing)
later_passes pss = map (drop 1) pss

-- so many rows: the first has the first pass of each port, the next the second, and so on
abbrev pub rows_from : ℕ → List (List Writing) → List (List (Lane StationSeen))
rows_from zero pss = []
rows_from (suc n) pss = first_lanes pss ∷ rows_from n (later_passes pss)

abbrev pub rows_in : {G : Type 0} → List (Vec (Lane StationSeen) G) → List (List (Lane StationSeen))
rows_in [] = []
rows_in (v ∷ vs) = v.items ∷ rows_in vs

-- a pass that has made nothing, and may make nothing
pub record IsIdle (p : Writing) : Type 0 where
  pub receipts : p.view.receipts ≡ []
  pub permits : p.view.permits ≡ 0

abbrev pub AreIdle : List (List Writing) → Type 0
AreIdle pss = Each (Each IsIdle) pss

-- a lane of caller k at a dock, before the first round
pub record IsNewLane (k : ℕ) (d : DockSeen) (l : Lane StationSeen) : Type 0 where
  pub pass : IsNewPass d.live.looking k l.station.pass
  pub lines : l.station.lines ≡ []
  pub whole : l.station.whole ≡ true
  pub base : l.base ≡ 0

abbrev pub IsNewRow : ℕ → List DockSeen → List (Lane StationSeen) → Type 0
IsNewRow k [] [] = Unit {0}
IsNewRow k (d ∷ ds) (l ∷ ls) = IsNewLane k d l × IsNewRow k ds ls
IsNewRow k _ _ = ⊥

-- rows of the callers from k on
abbrev pub AreNewRows : ℕ → List DockSeen → List (List (Lane StationSeen)) → Type 0
AreNewRows k ds [] = Unit {0}
AreNewRows k ds (row ∷ rows) = IsNewRow k ds row × AreNewRows (suc k) ds rows
