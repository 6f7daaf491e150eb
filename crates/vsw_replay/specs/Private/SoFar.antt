-- The rounds of a run so far.
use Rattle.std.specs.Prelude.{◌<◌, ◌≤◌, ℕ, List, length, map}
use Rattle.vsw_port.specs.declared.event.Event.{Event}
use Rattle.vsw_pcap.specs.declared.capture.Record.{Record}
use Rattle.vsw_promise.specs.Ports.{ports_of}
use Rattle.vsw_promise.specs.Jobs.{Setting}
use Rattle.vsw_promise.specs.Rounds.{AreRoundsAt, AreChained, AreHistories}
use Rattle.vsw_report.specs.declared.round.Round.{Round}

-- rounds at these cuts of a trace with these records, after which the ports stand at these histories, of 1 to 16 workers
pub record AreSoFar (s : Setting) (records : List Record) (cuts : List ℕ) (rounds : List Round) (hs : List (List Event)) : Type 0 where
  pub some : 0 < s.workers
  pub few : s.workers ≤ 16
  pub right : AreHistories (ports_of s.policy) hs
  pub are : AreRoundsAt s records hs cuts rounds
  pub chained : AreChained (map (λ p. 0) (ports_of s.policy)) rounds (map length hs)
