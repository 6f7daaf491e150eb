-- What it is to check a report: whether its rounds are those of a run over the files.
use Rattle.std.specs.Prelude.{◌≡◌, ℕ, List, Bool, true, false, length}
use Rattle.vsw_commandfile.specs.declared.line.Line.{Line}
use Rattle.vsw_config.specs.declared.file.PolicyFile.{PolicyFile}
use Rattle.vsw_pcap.specs.declared.capture.Record.{Record}
use Rattle.vsw_promise.specs.Jobs.{Setting, cuts}
use Rattle.vsw_promise.specs.Rounds.{AreRounds}
use Rattle.vsw_report.specs.declared.round.Round.{Round}

-- the run of which a report tells: no packet is handed on between its ports
abbrev pub checked : ℕ → PolicyFile → List Line → Setting
checked workers policy commands = record { workers = workers; policy = policy; commands = commands; local = false }

-- these are all rounds of a run with so many workers over these files: one at each cut of the trace. Each port has one history that is right, and
-- the rounds tell of all its entries, of all that its callers did, and with which bytes packets left
abbrev pub IsLegalReport : ℕ → PolicyFile → List Line → List Record → List Round → Type 0
IsLegalReport workers policy commands records rounds = AreRounds (checked workers policy commands) records (cuts commands (length records)) rounds

-- the answer is yes exactly where they are
pub record IsCheck (workers : ℕ) (policy : PolicyFile) (commands : List Line) (records : List Record) (rounds : List Round) (answer : Bool) : Type 0 where
  pub yes : answer ≡ true → IsLegalReport workers policy commands records rounds
  pub back : IsLegalReport workers policy commands records rounds → answer ≡ true

-- the definition leaves one answer
abbrev pub OneAnswer : Type 0
OneAnswer = (workers : ℕ) (policy : PolicyFile) (commands : List Line) (records : List Record) (rounds : List Round) (answer other : Bool) → IsCheck workers policy commands records rounds answer → IsCheck workers policy commands records rounds other → answer ≡ other
