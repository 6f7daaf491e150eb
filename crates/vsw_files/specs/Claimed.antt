-- What the reading of the trace and of the report leaves, of a run that checks.
use Rattle.std.specs.Prelude.{◌≡◌, ◌≤◌, ℕ, List, [], ◌∷◌, Result, Ok, Err}
use Rattle.vsw_check.specs.Report.{IsReport, IsBadLine}
use Rattle.vsw_check.specs.declared.report.Report.{Report}
use Rattle.vsw_commandfile.specs.declared.line.Line.{Line}
use Rattle.vsw_config.specs.declared.file.PolicyFile.{PolicyFile}
use Rattle.vsw_files.specs.Early.{HasCommands}
use Rattle.vsw_host.specs.Outside.{Opened, Outside, SameOutputs}
use Rattle.vsw_pcap.specs.declared.capture.Record.{Record}
use Rattle.vsw_reading.specs.declared.reading.Reading.{Reading}
use Rattle.vsw_report.specs.declared.round.Round.{Round}
use Rattle.vsw_run.specs.Checks.{Checks, IsReportFile, IsTrace, Opens}
use Rattle.vsw_run.specs.Files.{AreCommands, AreCutShort, IsPolicy}
use Rattle.vsw_run.specs.Words.{Claim}
use Rattle.vsw_run.specs.declared.ending.Ending.{Ending}
use Rattle.vsw_run.specs.declared.ending.Ending.TheVariants as ending
use Rattle.vsw_run.specs.declared.ending.ReportFault.TheVariants as fault

-- the bytes of a report, judged: a bad line ends the run by that, and want of memory by that
abbrev pub JudgesReport : List ℕ → Result Report Ending → Type 0
JudgesReport bytes (Ok report) = IsReport bytes report.rounds
JudgesReport bytes (Err (ending.Report (fault.Line number))) = IsBadLine bytes number
JudgesReport bytes (Err ending.Memory) = Unit {0}
JudgesReport bytes (Err _) = ⊥

-- these files were read, and nothing else was done
pub record HasRead (c : Claim) (old new : Outside) (files : List Opened) : Type 0 where
  pub opens : Opens old new c files
  pub short : AreCutShort files
  pub outputs : SameOutputs old new
  pub later : old.input_faults ≤ new.input_faults

-- the policy, the commands and the trace were read, and are good
pub record HasRecords (c : Claim) (old new : Outside) (policy : PolicyFile) (lines : List Line) (records : List Record) : Type 0 where
  pub policy_file : Opened
  pub commands_file : Opened
  pub file : Opened
  pub read : HasRead c old new (policy_file ∷ commands_file ∷ file ∷ [])
  pub policy_is : IsPolicy c.run.policy policy_file policy
  pub are : AreCommands c.run.commands commands_file policy lines
  pub is : IsTrace c.run.trace file records

-- so was the report
pub record HasReport (c : Claim) (old new : Outside) (policy : PolicyFile) (lines : List Line) (records : List Record) (rounds : List Round) : Type 0 where
  pub policy_file : Opened
  pub commands_file : Opened
  pub trace_file : Opened
  pub file : Opened
  pub read : HasRead c old new (policy_file ∷ commands_file ∷ trace_file ∷ file ∷ [])
  pub policy_is : IsPolicy c.run.policy policy_file policy
  pub are : AreCommands c.run.commands commands_file policy lines
  pub is : IsTrace c.run.trace trace_file records
  pub report_is : IsReportFile c.report file rounds

-- the run ended, and nothing was complained
pub record HasChecked (c : Claim) (old new : Outside) (end : Ending) : Type 0 where
  pub runs : Checks c old new end
  pub complained : new.complained ≡ old.complained
  pub complain_faults : new.complain_faults ≡ old.complain_faults

-- what the reading of the trace leaves, and that of the report
abbrev pub ReadsTrace : Claim → Outside → Outside → PolicyFile → List Line → Result Reading Ending → Type 0
ReadsTrace c old new policy lines (Ok trace) = HasRecords c old new policy lines trace.batch
ReadsTrace c old new policy lines (Err end) = HasChecked c old new end

abbrev pub ReadsReport : Claim → Outside → Outside → PolicyFile → List Line → List Record → Result Report Ending → Type 0
ReadsReport c old new policy lines records (Ok report) = HasReport c old new policy lines records report.rounds
ReadsReport c old new policy lines records (Err end) = HasChecked c old new end

-- the trace of this name is read next, whichever run has read its commands
abbrev pub ReadsTraceNext : Outside → Outside → List ℕ → Result Reading Ending → Type 0
ReadsTraceNext old new name r = (c : Claim) (start : Outside) (policy : PolicyFile) (lines : List Line) → c.run.trace ≡ name → HasCommands c.run start old policy lines
    → ReadsTrace c start new policy lines r

-- so is the report of this name, whichever run has read its records
abbrev pub ReadsReportNext : Outside → Outside → List ℕ → Result Report Ending → Type 0
ReadsReportNext old new name r = (c : Claim) (start : Outside) (policy : PolicyFile) (lines : List Line) (records : List Record) → c.report ≡ name → HasRecords c start old policy lines records
    → ReadsReport c start new policy lines records r
