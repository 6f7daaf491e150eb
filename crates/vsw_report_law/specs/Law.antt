-- What the rounds of a run, and their text, fix.
use Rattle.std.specs.Prelude.{◌≡◌, ℕ, List, length}
use Rattle.vsw_check.specs.Report.{IsReport}
use Rattle.vsw_history_law.specs.Law.{AreServed}
use Rattle.vsw_history_law.specs.Short.{AreCuts}
use Rattle.vsw_pcap.specs.declared.capture.Record.{Record}
use Rattle.vsw_promise.specs.Jobs.{Setting}
use Rattle.vsw_promise.specs.Rounds.{AreRounds}
use Rattle.vsw_report.specs.Print.{report_text}
use Rattle.vsw_report.specs.Proper.{AreProper}
use Rattle.vsw_report.specs.declared.round.Round.{Round}
use Rattle.vsw_report_law.specs.Given.{AreGiven}

-- the rounds of a run are proper, whether its trace ended cleanly or not
abbrev pub RoundsAreProper : Type 0
RoundsAreProper = (s : Setting) (records : List Record) (cs : List ℕ) (rounds : List Round) → AreGiven s records → AreCuts s.commands (length records) cs → AreRounds s records cs rounds → AreProper rounds

-- one text is of one list of rounds: two runs, of any settings over any traces, that put the same text have the same rounds
abbrev pub OneText : Type 0
OneText = (s t : Setting) (records packets : List Record) (cs ds : List ℕ) (rounds others : List Round) → AreGiven s records → AreGiven t packets → AreCuts s.commands (length records) cs → AreCuts t.commands (length packets) ds
    → AreRounds s records cs rounds → AreRounds t packets ds others → report_text rounds ≡ report_text others → rounds ≡ others

-- the text of a run's rounds is a report, as one is read
abbrev pub ReportIsRead : Type 0
ReportIsRead = (s : Setting) (records : List Record) (cs : List ℕ) (rounds : List Round) → AreGiven s records → AreCuts s.commands (length records) cs → AreRounds s records cs rounds → IsReport (report_text rounds) rounds

-- rounds fix the histories: whoever tells the same rounds of a run over the same records tells of the same entries, one after the other
abbrev pub OneHistory : Type 0
OneHistory = (s : Setting) (records : List Record) (cuts : List ℕ) (rounds : List Round) → AreServed s → (run other : AreRounds s records cuts rounds) → run.histories ≡ other.histories

-- so the text fixes them
abbrev pub TextFixesHistories : Type 0
TextFixesHistories = (s : Setting) (records : List Record) (cs : List ℕ) (rounds others : List Round) → AreGiven s records → AreCuts s.commands (length records) cs → (run : AreRounds s records cs rounds) (other : AreRounds s records cs others)
    → report_text rounds ≡ report_text others → run.histories ≡ other.histories
