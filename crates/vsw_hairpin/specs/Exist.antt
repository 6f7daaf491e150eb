-- The definitions contradict no input, also where packets are handed on.
use Rattle.std.specs.Prelude.{◌≡◌, ◌≤◌, ◌<◌, ℕ, List, length, map}
use Rattle.vsw_pcap.specs.declared.capture.Record.{Record}
use Rattle.vsw_port.specs.declared.event.Event.{Event}
use Rattle.vsw_promise.specs.Jobs.{Setting}
use Rattle.vsw_promise.specs.Ports.{ports_of}
use Rattle.vsw_promise.specs.Rounds.{AllBegin, AreChained, AreHistories, AreRounds, AreRoundsAt}
use Rattle.vsw_report.specs.declared.round.Round.{Round}

-- rounds at these cuts that follow these histories
pub record RoundsFollow (s : Setting) (records : List Record) (gs : List (List Event)) (cuts : List ℕ) : Type 0 where
  pub rounds : List Round
  pub histories : List (List Event)
  pub right : AreHistories (ports_of s.policy) histories
  pub begin : AllBegin gs histories
  pub are : AreRoundsAt s records histories cuts rounds
  pub chained : AreChained (map length gs) rounds (map length histories)

-- whatever the histories are, rounds follow them, for 1 to 16 workers
abbrev pub RoundsGoOn : Type 0
RoundsGoOn = (s : Setting) (records : List Record) (gs : List (List Event)) (cuts : List ℕ) → 0 < s.workers → s.workers ≤ 16 → AreHistories (ports_of s.policy) gs → RoundsFollow s records gs cuts

-- so no trace, policy and commands are without a report
abbrev pub RoundsAreThere : Type 0
RoundsAreThere = (s : Setting) (records : List Record) (cuts : List ℕ) → 0 < s.workers → s.workers ≤ 16 → (rounds : List Round) × AreRounds s records cuts rounds
