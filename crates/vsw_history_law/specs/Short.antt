-- The histories of a run are no longer than what was to be done.
use Rattle.std.specs.Prelude.{◌≡◌, ◌⊎◌, ◌≤◌, ◌+◌, ℕ, List, length, Some, false}
use Rattle.std.specs.List.{slice_get}
use Rattle.vsw_commandfile.specs.declared.line.Line.{Line}
use Rattle.vsw_history_law.specs.Law.{all_jobs}
use Rattle.vsw_pcap.specs.declared.capture.Record.{Record}
use Rattle.vsw_port.specs.declared.event.Event.{Event}
use Rattle.vsw_promise.specs.Jobs.{Setting, cuts, cuts_within}
use Rattle.vsw_promise.specs.Ports.{PortSeen, ports_of}
use Rattle.vsw_promise.specs.Rounds.{AreRounds}
use Rattle.vsw_report.specs.declared.round.Round.{Round}

-- at each port there are no more entries than jobs
abbrev pub EntriesAreJobs : Type 0
EntriesAreJobs = (s : Setting) (records : List Record) (cuts : List ℕ) (rounds : List Round) (run : AreRounds s records cuts rounds) (place : ℕ) (p : PortSeen) (h : List Event)
    → slice_get (ports_of s.policy) place ≡ Some p → slice_get run.histories place ≡ Some h → length h ≤ length (all_jobs s records cuts rounds place p.number)

-- the cuts of a trace that ended cleanly, or of one that didn't
abbrev pub AreCuts : List Line → ℕ → List ℕ → Type 0
AreCuts commands total cs = (cs ≡ cuts commands total) ⊎ (cs ≡ cuts_within commands total)

-- where no packet is handed on, there are no more entries than commands and records
abbrev pub HistoriesAreShort : Type 0
HistoriesAreShort = (s : Setting) (records : List Record) (cs : List ℕ) (rounds : List Round) (run : AreRounds s records cs rounds) (place : ℕ) (p : PortSeen) (h : List Event)
    → s.local ≡ false → AreCuts s.commands (length records) cs → slice_get (ports_of s.policy) place ≡ Some p → slice_get run.histories place ≡ Some h → length h ≤ length s.commands + length records
