-- The lines of a report stand in the order in which one is read.
use Rattle.std.specs.Prelude.{ℕ, List}
use Rattle.vsw_check.specs.Report.{AreTold}
use Rattle.vsw_history_law.specs.Law.{AreServed}
use Rattle.vsw_pcap.specs.declared.capture.Record.{Record}
use Rattle.vsw_promise.specs.Jobs.{Setting}
use Rattle.vsw_promise.specs.Rounds.{AreRounds}
use Rattle.vsw_report.specs.declared.round.Round.{Round}

-- each port's lines lead from its first count to its last: at each count the reads, by workers and then by controllers, and then the entry
abbrev pub RoundsAreTold : Type 0
RoundsAreTold = (s : Setting) (records : List Record) (cuts : List ℕ) (rounds : List Round) → AreServed s → AreRounds s records cuts rounds → AreTold rounds
