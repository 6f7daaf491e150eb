-- The exit status of the process, told from how its run ended.
use Rattle.std.specs.Prelude.{◌≡◌, ◌↔◌, List, ℕ, None}
use Rattle.std.specs.Process.{exit_status}
use Rattle.std.specs.declared.process.ExitCode.{ExitCode}
use Rattle.std_io.specs.declared.io.kind.ErrorKind.{ErrorKind}
use Rattle.std_io.specs.declared.io.kind.ErrorKind.TheVariants.{OutOfMemory}
use Rattle.vsw_host.specs.Outside.{Outside, Rose}
use Rattle.vsw_run.specs.Complaint.{number_of}
use Rattle.vsw_run.specs.IsRun.{IsRun, IsAnswered, IsComplete, IsCompleteAlone, IsCompleteByRows}
use Rattle.vsw_run.specs.declared.ending.Status.{Status}
use Rattle.vsw_run.specs.declared.ending.Status.TheVariants.{Usage, ReadFault, WriteFault, Memory}
use Rattle.vsw_run.specs.Words.{asked_in}

-- how a run ends whose words can't be had: where there was no room for them, Memory; a word that isn't UTF-8 is of no grammar
abbrev pub status_without : ErrorKind → Status
status_without OutOfMemory = Memory
status_without error = Usage

-- a run of these words was made, with all that is promised of one, and the process ends with its status. 1 is left to a process that can't
-- begin its run
pub record Exits (words : List (List ℕ)) (old new : Outside) (code : ExitCode) : Type 0 where
  pub status : Status
  pub code_is : exit_status code ≡ number_of status
  pub run : IsRun words old new status
  pub usage : (status ≡ Usage) ↔ (asked_in words ≡ None)
  pub read_fault : status ≡ ReadFault → Rose old.input_faults new.input_faults
  pub write_fault : status ≡ WriteFault → Rose old.put_faults new.put_faults
  pub complete : IsComplete words old new status
  pub alone : IsCompleteAlone words old new status
  pub answered : IsAnswered words old new status
  pub by_rows : IsCompleteByRows words old new status
