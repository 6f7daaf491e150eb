-- What is put of files that are read is a report, as one is read.
use Rattle.std.specs.Prelude.{◌≡◌, ◌⊎◌, ◌≤◌, ℕ, Bool, List, [], length, drop, Ok}
use Rattle.hex.specs.Hex.{IsBytes}
use Rattle.vsw_check.specs.Report.{IsReport}
use Rattle.vsw_commandfile.specs.Commands.{commands_file_of}
use Rattle.vsw_config.specs.Policy.{policy_file_of}
use Rattle.vsw_host.specs.Outside.{Opened, Outside}
use Rattle.vsw_pcap.specs.Capture.{Splits}
use Rattle.vsw_pcap.specs.declared.capture.Form.{Form}
use Rattle.vsw_pcap.specs.declared.capture.Record.{Record}
use Rattle.vsw_promise.specs.Jobs.{Setting}
use Rattle.vsw_report.specs.declared.round.Round.{Round}
use Rattle.vsw_run.specs.ByTrace.{EndsSo}
use Rattle.vsw_run.specs.Files.{HasTrace, IsReadOf}
use Rattle.vsw_run.specs.Words.{Request, AskReport}
use Rattle.vsw_run.specs.declared.ending.Ending.{Ending}
use Rattle.vsw_run.specs.declared.ending.Ending.TheVariants as ending
use Rattle.vsw_report_law.specs.Given.{AreGiven}

-- files give what the laws of a report ask of its run: a policy, commands under it, and records of a trace that is bytes
abbrev pub FilesGive : Type 0
FilesGive = (s : Setting) (policy commands trace back : List ℕ) (form : Form) (records : List Record) → 1 ≤ s.workers → s.workers ≤ 16 → policy_file_of policy ≡ Ok s.policy → commands_file_of s.policy commands ≡ Ok s.commands
    → IsBytes trace → Splits form (drop 24 trace) records back → length records ≤ 1048576 → AreGiven s records

-- whatever a run over files ended by, what it put whole of its trace is nothing or a report, if that file is bytes
abbrev pub PutIsRead : Type 0
PutIsRead = (words : List (List ℕ)) (local : Bool) (q : Request) (old new : Outside) (files : List Opened) (s : Setting) (file : Opened) (end : Ending) → AskReport words local q → HasTrace local q files s file → IsBytes file.bytes
    → (ends : EndsSo s (IsReadOf old new file) old new end) → (ends.text ≡ []) ⊎ ((rounds : List Round) × IsReport ends.text rounds)

-- one that ended well put a report
abbrev pub DoneIsRead : Type 0
DoneIsRead = (words : List (List ℕ)) (local : Bool) (q : Request) (old new : Outside) (files : List Opened) (s : Setting) (file : Opened) → AskReport words local q → HasTrace local q files s file → IsBytes file.bytes
    → (ends : EndsSo s (IsReadOf old new file) old new ending.Done) → (rounds : List Round) × IsReport ends.text rounds
