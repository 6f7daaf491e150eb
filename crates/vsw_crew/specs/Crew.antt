-- A crew between two rounds.
use Rattle.std.specs.Prelude.{◌≡◌, ℕ, Bool, List, [], ◌∷◌, length, map}
use Rattle.vsw_commandfile.specs.declared.line.Line.{Line}
use Rattle.vsw_harbour.specs.Lane.{Lane}
use Rattle.vsw_harbour.specs.Docks.{port_in}
use Rattle.vsw_harbour.specs.Seen.{DockSeen, StationSeen}
use Rattle.vsw_port.specs.Order.{ascending, counted}
use Rattle.vsw_port.specs.declared.event.Event.{Event}
use Rattle.vsw_pcap.specs.declared.capture.Record.{Record}
use Rattle.vsw_harbour.specs.Rounds.{AreJournals}
use Rattle.vsw_promise.specs.Jobs.{Setting}
use Rattle.vsw_promise.specs.Rounds.{opening_of}
use Rattle.vsw_switch.specs.Round.{TellsRound}
use Rattle.vsw_switch.specs.Switch.{IsAt, PortNow, SwitchNow}
use Rattle.vsw_switch.specs.Tally.{none}
use Rattle.vsw_harbour.specs.Harbour.{HarbourSeen, IsOfRun, callers, locals_in, ports_in}
use Rattle.vsw_harbour.specs.Standing.{RowsStand, no_calls}

-- what does not change, and the history of each port
pub record CrewSeen : Type 0 where
  pub harbour : HarbourSeen
  pub histories : List (List Event)

-- what the callers have seen of each port, as the first of them tells
abbrev pub seen_by : List (List (Lane StationSeen)) → List (List Event)
seen_by [] = []
seen_by (row ∷ rows) = map (λ l. l.station.pass.view.front) row

-- each caller has a row, has seen the whole histories of the ports, which are right, and tells nothing of the next round
pub record AreReady (h : HarbourSeen) (hs : List (List Event)) (rows : List (List (Lane StationSeen))) : Type 0 where
  pub size : length rows ≡ callers h
  pub stand : RowsStand 0 h.docks hs (no_calls h.docks) rows
  pub journals : AreJournals (callers h) (ports_in h.docks) hs hs

-- the harbour is that of some run
pub record IsOfSome (h : HarbourSeen) : Type 0 where
  pub run : Setting
  pub is : IsOfRun h run

-- a crew for which memory was wanting has no rows any more
abbrev pub AreRowsOf : HarbourSeen → List (List (Lane StationSeen)) → Type 0
AreRowsOf h [] = Unit {0}
AreRowsOf h (row ∷ rows) = IsOfSome h × AreReady h (seen_by (row ∷ rows)) (row ∷ rows)

-- a port between two rounds, at this history
abbrev pub port_now : HarbourSeen → DockSeen → List Event → PortNow
port_now h d g = record {
  number = d.number;
  mac = d.mac;
  opening = opening_of (port_in d);
  journal = g;
  before = length g;
  workers = map (λ k. []) (counted 0 h.workers);
  controllers = map (λ c. []) (ascending h.controllers);
  tally = none;
  last = none;
}

abbrev pub ports_now : HarbourSeen → List DockSeen → List (List Event) → List PortNow
ports_now h [] gs = []
ports_now h (d ∷ ds) [] = port_now h d [] ∷ ports_now h ds []
ports_now h (d ∷ ds) (g ∷ gs) = port_now h d g ∷ ports_now h ds gs

-- the ports between two rounds, at these histories
abbrev pub switch_now : HarbourSeen → List (List Event) → SwitchNow
switch_now h gs = record { workers = h.workers; locals = locals_in h.docks; ports = ports_now h h.docks gs; loose = [] }

abbrev pub crew_now : CrewSeen → SwitchNow
crew_now c = switch_now c.harbour c.histories

-- in each run that is at ports as these were, the round of these packets is told so, and the ports are then these
abbrev pub RunsRound : List Line → ℕ → List Record → SwitchNow → SwitchNow → Bool → List ℕ → List ℕ → Type 0
RunsRound lines first packets before after short old new = (s : Setting) (hs : List (List Event)) → s.commands ≡ lines → IsAt s hs before → TellsRound s hs first packets after short old new
