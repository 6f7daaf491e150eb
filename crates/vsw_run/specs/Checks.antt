-- A run that checks a report: what it opens and reads, what its files say, and what it puts.
use Rattle.std.specs.Prelude.{◌≡◌, ◌<◌, ◌≤◌, ◌+◌, ℕ, List, [], ◌∷◌, length, take, Bool, true, false, Option, Some, None, Ok, codes}
use Rattle.vsw_audit.specs.Check.{IsCheck}
use Rattle.vsw_check.specs.Report.{IsReport, IsBadLine}
use Rattle.vsw_commandfile.specs.Commands.{commands_file_of}
use Rattle.vsw_commandfile.specs.declared.line.Line.{Line}
use Rattle.vsw_config.specs.Policy.{policy_file_of}
use Rattle.vsw_config.specs.declared.file.PolicyFile.{PolicyFile}
use Rattle.vsw_host.specs.Outside.{Inputs, Opened, Outside, Grows, Rose}
use Rattle.vsw_host.specs.Reading.{piece}
use Rattle.vsw_host.specs.Told.{TellsHeld, TellsSince}
use Rattle.vsw_pcap.specs.Capture.{IsCapture, Stops}
use Rattle.vsw_pcap.specs.declared.capture.Front.{Front}
use Rattle.vsw_pcap.specs.declared.capture.Record.{Record}
use Rattle.vsw_pcap.specs.declared.fault.BadTrace.{BadTrace}
use Rattle.vsw_policy.specs.Sound.{Each}
use Rattle.vsw_report.specs.declared.round.Round.{Round}
use Rattle.vsw_run.specs.declared.ending.Ending.{Ending}
use Rattle.vsw_run.specs.declared.ending.Ending.TheVariants as ending
use Rattle.vsw_run.specs.declared.ending.ReportFault.{ReportFault}
use Rattle.vsw_run.specs.declared.ending.ReportFault.TheVariants as report
use Rattle.vsw_run.specs.Files.{AreCommands, AreCutShort, HasBadCommands, HasBadPolicy, IsPolicy, IsWhole}
use Rattle.vsw_run.specs.Files as files
use Rattle.vsw_run.specs.Trace.{most_records}
use Rattle.vsw_run.specs.Words.{Claim}

-- the most bytes of a report that is checked
abbrev pub most_report : ℕ
most_report = 268435456

-- the file of this name was read to its end, and is a sound trace with these records, within its limit
pub record IsTrace (name : List ℕ) (f : Opened) (records : List Record) : Type 0 where
  pub named : f.name ≡ name
  pub whole : IsWhole f
  pub sound : IsCapture f.bytes records None
  pub few : length records ≤ most_records

-- the file of this name was read to its end, and is the report of these rounds, within its limit
pub record IsReportFile (name : List ℕ) (f : Opened) (rounds : List Round) : Type 0 where
  pub named : f.name ≡ name
  pub whole : IsWhole f
  pub few : length f.bytes ≤ most_report
  pub says : IsReport f.bytes rounds

-- the files of the run that is claimed are opened in their turn, the report last: only once these were read to their ends and are good
abbrev pub InTurn : Claim → List Opened → Type 0
InTurn c (p ∷ m ∷ t ∷ r ∷ []) = (policy : PolicyFile) × (lines : List Line) × (records : List Record) × IsPolicy c.run.policy p policy × AreCommands c.run.commands m policy lines × IsTrace c.run.trace t records × (r.name ≡ c.report)
InTurn c opened = files.InTurn c.run opened

-- these files were opened since, and no other, in this order; the host held them, where it tells that
pub record Opens (old new : Outside) (c : Claim) (files : List Opened) : Type 0 where
  pub since : TellsSince old.inputs new.inputs files
  pub held : Each (λ f. TellsHeld old.inputs f.name f.bytes) files
  pub within : Each (λ f. f.read ≤ length f.bytes) files
  pub in_turn : InTurn c files

-- the trace is refused, and the report wasn't opened: behind these records, fewer than a trace may have, the whole file has this fault
pub record HasBadTrace (files : List Opened) (bad : BadTrace) : Type 0 where
  pub policy : Opened
  pub commands : Opened
  pub trace : Opened
  pub only : files ≡ policy ∷ commands ∷ trace ∷ []
  pub records : List Record
  pub refused : IsCapture trace.bytes records (Some bad)
  pub few : length records < most_records

-- a byte stands in the trace after as many records as it may have
pub record HasManyRecords (files : List Opened) : Type 0 where
  pub policy : Opened
  pub commands : Opened
  pub trace : Opened
  pub only : files ≡ policy ∷ commands ∷ trace ∷ []
  pub records : List Record
  pub at : ℕ
  pub front : Front
  pub stops : Stops trace.bytes records at front
  pub more : at < length trace.bytes
  pub full : length records ≡ most_records

-- a report over its limit is read no further than one piece past it; a bad line is shown by the whole file
abbrev pub ShowsReport : ReportFault → Opened → Type 0
ShowsReport report.ReportLimit f = (most_report < f.read) × (f.read ≤ most_report + piece)
ShowsReport (report.Line number) f = IsWhole f × (length f.bytes ≤ most_report) × IsBadLine f.bytes number

-- the report is refused, or over its limit
pub record HasBadReport (files : List Opened) (why : ReportFault) : Type 0 where
  pub policy : Opened
  pub commands : Opened
  pub trace : Opened
  pub report : Opened
  pub all : files ≡ policy ∷ commands ∷ trace ∷ report ∷ []
  pub shown : ShowsReport why report

-- all four files were read to their ends and are good: what they say
pub record HasClaim (c : Claim) (files : List Opened) : Type 0 where
  pub policy_file : Opened
  pub commands_file : Opened
  pub trace_file : Opened
  pub report_file : Opened
  pub all : files ≡ policy_file ∷ commands_file ∷ trace_file ∷ report_file ∷ []
  pub policy : PolicyFile
  pub policy_is : IsPolicy c.run.policy policy_file policy
  pub commands : List Line
  pub commands_are : AreCommands c.run.commands commands_file policy commands
  pub records : List Record
  pub trace_is : IsTrace c.run.trace trace_file records
  pub rounds : List Round
  pub report_is : IsReportFile c.report report_file rounds

-- the answer that they give: whether the report's rounds are those of such a run
pub record Answers (c : Claim) (files : List Opened) (answer : Bool) : Type 0 where
  pub claim : HasClaim c files
  pub is : IsCheck c.run.workers claim.policy claim.commands claim.records claim.rounds answer

-- what is put
abbrev pub answer_text : Bool → List ℕ
answer_text true = codes "legal\n"
answer_text false = codes "illegal\n"

-- what a run that checks put, by how it ended: the answer, a front of it where a put failed, or nothing. It ends by a read fault or a write fault only if the host counted one
abbrev pub Ends : Claim → Outside → Outside → List Opened → Ending → Type 0
Ends c old new files ending.Done = Answers c files true × Grows old.put new.put (answer_text true)
Ends c old new files ending.Illegal = Answers c files false × Grows old.put new.put (answer_text false)
Ends c old new files (ending.Policy why) = HasBadPolicy files why × Grows old.put new.put []
Ends c old new files (ending.Commands why) = HasBadCommands files why × Grows old.put new.put []
Ends c old new files (ending.Trace bad) = HasBadTrace files bad × Grows old.put new.put []
Ends c old new files ending.Records = HasManyRecords files × Grows old.put new.put []
Ends c old new files (ending.Report why) = HasBadReport files why × Grows old.put new.put []
Ends c old new files ending.ReadFault = Rose old.input_faults new.input_faults × AreCutShort files × Grows old.put new.put []
Ends c old new files ending.WriteFault = Rose old.put_faults new.put_faults × ((answer : Bool) × (count : ℕ) × Answers c files answer × Grows old.put new.put (take count (answer_text answer)))
Ends c old new files ending.Memory = Grows old.put new.put []
Ends c old new files (ending.Rows why) = ⊥
Ends c old new files ending.Usage = ⊥

-- the words ask for a check
pub record Checks (c : Claim) (old new : Outside) (end : Ending) : Type 0 where
  pub files : List Opened
  pub opens : Opens old new c files
  pub ends : Ends c old new files end

-- the host holds the four files of a claim: a good policy, good commands, a sound trace and a report, each within its limit
pub record AreGood (c : Claim) (inputs : Option Inputs) : Type 0 where
  pub files : Inputs
  pub told : inputs ≡ Some files
  pub policy : List ℕ
  pub commands : List ℕ
  pub trace : List ℕ
  pub report : List ℕ
  pub policy_held : files.files c.run.policy ≡ Some policy
  pub commands_held : files.files c.run.commands ≡ Some commands
  pub trace_held : files.files c.run.trace ≡ Some trace
  pub report_held : files.files c.report ≡ Some report
  pub given : PolicyFile
  pub policy_good : policy_file_of policy ≡ Ok given
  pub lines : List Line
  pub commands_good : commands_file_of given commands ≡ Ok lines
  pub records : List Record
  pub trace_good : IsCapture trace records None
  pub few : length records ≤ most_records
  pub rounds : List Round
  pub report_good : IsReport report rounds
  pub short : length report ≤ most_report
