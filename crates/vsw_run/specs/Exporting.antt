-- A run that puts the rows that are current at the end of its trace: what it opens and reads, and what it puts. `Reads t` says that t was read of the trace.
use Rattle.std.specs.Prelude.{◌≡◌, ◌⊎◌, ◌≤◌, ℕ, List, length, false, None}
use Rattle.vsw_host.specs.Outside.{Opened, Outside, Rose}
use Rattle.vsw_pcap.specs.Capture.{IsCapture}
use Rattle.vsw_pcap.specs.declared.capture.Record.{Record}
use Rattle.vsw_promise.specs.Jobs.{Setting}
use Rattle.vsw_run.specs.declared.ending.Ending.{Ending}
use Rattle.vsw_run.specs.declared.ending.Ending.TheVariants as ending
use Rattle.vsw_run.specs.ByTrace.{Puts, PutsFront, PutsNothing, StopsUnput}
use Rattle.vsw_run.specs.Export.{IsExport}
use Rattle.vsw_run.specs.Files.{HasTrace, IsEarly, IsReadOf, Opens}
use Rattle.vsw_run.specs.Trace.{All, Tells, Trace, most_records}
use Rattle.vsw_run.specs.Words.{Request}

-- the whole trace was read, and this is the rows file of a run over its packets
pub record ReadsExport (s : Setting) (Reads : Trace → Type 0) (text : List ℕ) : Type 0 where
  pub trace : Trace
  pub reads : Reads trace
  pub whole : trace.reach ≡ All
  pub records : List Record
  pub capture : IsCapture trace.bytes records None
  pub few : length records ≤ most_records
  pub is : IsExport s records text

-- it was put
pub record PutsExport (s : Setting) (Reads : Trace → Type 0) (old new : Outside) : Type 0 where
  pub text : List ℕ
  pub read : ReadsExport s Reads text
  pub puts : Puts old new text

-- a front of it was put
pub record PutsExportFront (s : Setting) (Reads : Trace → Type 0) (old new : Outside) : Type 0 where
  pub text : List ℕ
  pub read : ReadsExport s Reads text
  pub puts : PutsFront old new text

-- what was read of the trace ends a run that forwards it so, and nothing was put
pub record EndsUnput (s : Setting) (Reads : Trace → Type 0) (old new : Outside) (end : Ending) : Type 0 where
  pub trace : Trace
  pub reads : Reads trace
  pub text : List ℕ
  pub tells : Tells s trace end text
  pub nothing : PutsNothing old new

-- what is put of a trace, by how the run ended. It ends by a read fault or a write fault only if the host counted one
abbrev pub TraceEnds : Setting → (Trace → Type 0) → Outside → Outside → Ending → Type 0
TraceEnds s Reads old new ending.Done = PutsExport s Reads old new
TraceEnds s Reads old new (ending.Trace bad) = EndsUnput s Reads old new (ending.Trace bad)
TraceEnds s Reads old new ending.Records = EndsUnput s Reads old new ending.Records
TraceEnds s Reads old new ending.ReadFault = Rose old.input_faults new.input_faults × EndsUnput s Reads old new ending.ReadFault
TraceEnds s Reads old new ending.WriteFault = Rose old.put_faults new.put_faults × PutsExportFront s Reads old new
TraceEnds s Reads old new ending.Memory = StopsUnput Reads old new ⊎ PutsExportFront s Reads old new
TraceEnds s Reads old new _ = ⊥

-- the trace was opened, and what was read of it gives this ending
pub record EndsByTrace (q : Request) (old new : Outside) (files : List Opened) (end : Ending) : Type 0 where
  pub setting : Setting
  pub file : Opened
  pub opened : HasTrace false q files setting file
  pub ends : TraceEnds setting (IsReadOf old new file) old new end

-- what a run put that exports: nothing before it opened its trace, or what is put of the trace
abbrev pub Ends : Request → Outside → Outside → List Opened → Ending → Type 0
Ends q old new files end = (IsEarly old new files end × PutsNothing old new) ⊎ EndsByTrace q old new files end

-- the words ask for the rows that are current
pub record RunsExport (q : Request) (old new : Outside) (end : Ending) : Type 0 where
  pub files : List Opened
  pub opens : Opens old new q files
  pub ends : Ends q old new files end
