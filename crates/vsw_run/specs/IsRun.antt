-- A run of the program: what it opens and reads, what it puts, what it complains, and its status.
use Rattle.std.specs.Prelude.{◌≡◌, ◌⊎◌, ◌≤◌, ℕ, List, [], length, Bool, true, false, Option, Some, None, Ok}
use Rattle.vsw_host.specs.Outside.{Inputs, Opened, Outside, Rose}
use Rattle.vsw_host.specs.Told.{TellsSince}
use Rattle.vsw_commandfile.specs.Commands.{commands_file_of}
use Rattle.vsw_pcap.specs.Capture.{IsCapture}
use Rattle.vsw_pcap.specs.declared.capture.Record.{Record}
use Rattle.vsw_config.specs.Policy.{policy_file_of}
use Rattle.vsw_run.specs.ByRows as rows
use Rattle.vsw_run.specs.ByRows.{RunsByRows}
use Rattle.vsw_run.specs.ByTrace as of_trace
use Rattle.vsw_run.specs.ByTrace.{Puts, PutsFront, PutsNothing}
use Rattle.vsw_run.specs.Checks.{AreGood, Checks}
use Rattle.vsw_run.specs.Complaint.{status_of, complaint, Complains}
use Rattle.vsw_run.specs.declared.ending.Ending.{Ending}
use Rattle.vsw_run.specs.declared.ending.Ending.TheVariants as ending
use Rattle.vsw_run.specs.declared.ending.Status.{Status}
use Rattle.vsw_run.specs.declared.ending.Status.TheVariants as status
use Rattle.vsw_run.specs.Exporting.{RunsExport}
use Rattle.vsw_run.specs.Files.{HasTrace, IsEarly, IsReadOf, Opens}
use Rattle.vsw_run.specs.Generated.{Summarizes}
use Rattle.vsw_promise.specs.Jobs.{Setting}
use Rattle.vsw_run.specs.Trace.{most_records}
use Rattle.vsw_run.specs.Words.{Request, Claim, Query, Asked, Forward, Deliver, Stream, Offload, Check, Engine, Generate, asked_in}

-- the trace was opened, and what was read of it gives this ending
pub record EndsByTrace (local : Bool) (q : Request) (old new : Outside) (files : List Opened) (end : Ending) : Type 0 where
  pub setting : Setting
  pub file : Opened
  pub opened : HasTrace local q files setting file
  pub ends : of_trace.Ends setting (IsReadOf old new file) old new end

-- what a run over these files put: nothing before it opened its trace, or what is put of the trace
abbrev pub Ends : (local : Bool) → Request → Outside → Outside → List Opened → Ending → Type 0
Ends local q old new files end = (IsEarly old new files end × PutsNothing old new) ⊎ EndsByTrace local q old new files end

-- the words ask for a run over files, in which packets are handed on between ports or aren't
pub record Runs (local : Bool) (q : Request) (old new : Outside) (end : Ending) : Type 0 where
  pub files : List Opened
  pub opens : Opens old new q files
  pub ends : Ends local q old new files end

-- the words are outside the grammar: nothing was opened, and nothing put
pub record RunsNot (old new : Outside) (end : Ending) : Type 0 where
  pub usage : end ≡ ending.Usage
  pub opens : TellsSince old.inputs new.inputs []
  pub nothing : PutsNothing old new

-- the whole summary was put, of rounds in which memory was wanting or not
pub record PutsSummary (start packets : ℕ) (old new : Outside) (short : Bool) : Type 0 where
  pub text : List ℕ
  pub summarizes : Summarizes start packets short text
  pub puts : Puts old new text

-- a front of a summary was put
pub record PutsPart (start packets : ℕ) (old new : Outside) : Type 0 where
  pub short : Bool
  pub text : List ℕ
  pub summarizes : Summarizes start packets short text
  pub puts : PutsFront old new text

-- what a run over a generated workload put, by how it ended. It ends by a write fault only if the host counted one
abbrev pub EndsGenerated : (start packets : ℕ) → Outside → Outside → Ending → Type 0
EndsGenerated start packets old new ending.Done = PutsSummary start packets old new false
EndsGenerated start packets old new ending.WriteFault = Rose old.put_faults new.put_faults × PutsPart start packets old new
EndsGenerated start packets old new ending.Memory = PutsNothing old new ⊎ PutsSummary start packets old new true
EndsGenerated start packets old new _ = ⊥

-- the words ask for a run over a generated workload: nothing was opened
pub record RunsGenerated (start packets : ℕ) (old new : Outside) (end : Ending) : Type 0 where
  pub opens : TellsSince old.inputs new.inputs []
  pub ends : EndsGenerated start packets old new end

-- a run by what its words ask for. `stream` promises what `forward` promises
abbrev pub RunsBy : Option Asked → Outside → Outside → Ending → Type 0
RunsBy None old new end = RunsNot old new end
RunsBy (Some (Forward q)) old new end = Runs false q old new end
RunsBy (Some (Deliver q)) old new end = Runs true q old new end
RunsBy (Some (Stream q)) old new end = Runs false q old new end
RunsBy (Some (Offload q)) old new end = RunsExport q old new end
RunsBy (Some (Check c)) old new end = Checks c old new end
RunsBy (Some (Engine q)) old new end = RunsByRows q old new end
RunsBy (Some (Generate start packets)) old new end = RunsGenerated start packets old new end

-- the whole program: what a run of these words left, by its status
pub record IsRun (words : List (List ℕ)) (old new : Outside) (status : Status) : Type 0 where
  pub end : Ending
  pub status_is : status ≡ status_of end
  pub runs : RunsBy (asked_in words) old new end
  pub complains : Complains old new (complaint end)

-- the words ask for a run over the files of this request: to forward, to hand packets on too, to forward while the trace is read, or to put the rows that are current
abbrev pub AskRun : List (List ℕ) → Request → Type 0
AskRun words q = (asked_in words ≡ Some (Forward q)) ⊎ (asked_in words ≡ Some (Deliver q)) ⊎ (asked_in words ≡ Some (Stream q)) ⊎ (asked_in words ≡ Some (Offload q))

-- the words ask for a run over three files that the host holds: a good policy, good commands, and a sound trace within its limit
pub record AreAdmitted (words : List (List ℕ)) (inputs : Option Inputs) : Type 0 where
  pub request : Request
  pub asked : AskRun words request
  pub files : Inputs
  pub told : inputs ≡ Some files
  pub policy : List ℕ
  pub commands : List ℕ
  pub trace : List ℕ
  pub policy_held : files.files request.policy ≡ Some policy
  pub commands_held : files.files request.commands ≡ Some commands
  pub trace_held : files.files request.trace ≡ Some trace
  pub setting : Setting
  pub policy_good : policy_file_of policy ≡ Ok setting.policy
  pub commands_good : commands_file_of setting.policy commands ≡ Ok setting.commands
  pub records : List Record
  pub trace_good : IsCapture trace records None
  pub few : length records ≤ most_records

-- then nothing but a fault or want of memory keeps a run from its end
abbrev pub IsComplete : List (List ℕ) → Outside → Outside → Status → Type 0
IsComplete words old new s = AreAdmitted words old.inputs → ¬ (Rose old.input_faults new.input_faults) → ¬ (Rose old.put_faults new.put_faults) → (s ≡ status.Done) ⊎ (s ≡ status.Memory)

-- the words ask for a generated workload: then nothing but a fault of putting or want of memory does so
abbrev pub IsCompleteAlone : List (List ℕ) → Outside → Outside → Status → Type 0
IsCompleteAlone words old new s = (start packets : ℕ) → asked_in words ≡ Some (Generate start packets) → ¬ (Rose old.put_faults new.put_faults) → (s ≡ status.Done) ⊎ (s ≡ status.Memory)

-- the words ask for a check of good files: then nothing but a fault or want of memory keeps it from an answer
abbrev pub IsAnswered : List (List ℕ) → Outside → Outside → Status → Type 0
IsAnswered words old new s = (c : Claim) → asked_in words ≡ Some (Check c) → AreGood c old.inputs → ¬ (Rose old.input_faults new.input_faults) → ¬ (Rose old.put_faults new.put_faults) → (s ≡ status.Done) ⊎ (s ≡ status.Illegal) ⊎ (s ≡ status.Memory)

-- the words ask for a good trace to be answered from a rows file: then nothing but a fault or want of memory keeps the run from its end
abbrev pub IsCompleteByRows : List (List ℕ) → Outside → Outside → Status → Type 0
IsCompleteByRows words old new s = (q : Query) → asked_in words ≡ Some (Engine q) → rows.AreGood q old.inputs → ¬ (Rose old.input_faults new.input_faults) → ¬ (Rose old.put_faults new.put_faults) → (s ≡ status.Done) ⊎ (s ≡ status.Memory)
