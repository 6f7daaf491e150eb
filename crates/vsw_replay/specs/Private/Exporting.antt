-- A run that puts nothing of its rounds, and exports the rows behind the trace.
use Rattle.std.specs.Prelude.{◌≡◌, ◌≤◌, ◌++◌, ℕ, Bool, false, Option, Some, None, List, length, take, Result, Ok, Err, ⊤}
use Rattle.std.specs.List.{flat_map}
use Rattle.vsw_base.specs.declared.fault.NoMemory.{NoMemory}
use Rattle.vsw_commandfile.specs.declared.line.Line.{Line}
use Rattle.vsw_host.specs.Outside.{Outside, SameOutputs}
use Rattle.vsw_host.specs.Told.{ReadsAll}
use Rattle.vsw_offload.specs.Rows.{port_bytes, rows_bytes}
use Rattle.vsw_offload.specs.declared.port_rows.PortRows.{PortRows}
use Rattle.vsw_pcap.specs.Capture.{IsCapture}
use Rattle.vsw_pcap.specs.declared.capture.Record.{Record}
use Rattle.vsw_port.specs.declared.event.Event.{Event}
use Rattle.vsw_promise.specs.Jobs.{Setting, cuts}
use Rattle.vsw_promise.specs.Ports.{ports_of}
use Rattle.vsw_report.specs.Short.{are_short}
use Rattle.vsw_report.specs.declared.round.Round.{Round}
use Rattle.vsw_run.specs.Export.{AreExported}
use Rattle.vsw_run.specs.Trace.{most_records}
use Rattle.vsw_crew.specs.Switch.{SwitchNow, IsAt}
use Rattle.vsw_replay.specs.Exports.{ExportsTrace}
use Rattle.vsw_replay.specs.Private.Going.{IsFilled, IsOpened, IsPast, AfterPut, Since, clean_of}
use Rattle.vsw_replay.specs.Private.SoFar.{AreSoFar}
use Rattle.vsw_replay.specs.Runs.{RunsTrace}
use Rattle.vsw_replay.specs.declared.ending.TraceEnd.{TraceEnd}
use Rattle.vsw_replay.specs.declared.ending.TraceEnd.TheVariants as end
use Rattle.vsw_replay.specs.declared.trace.Run.{Run}
use Rattle.vsw_replay.specs.declared.trace.Stretch.{Stretch}

-- the same, where nothing is told of what was put: what a run says that began so holds of one that puts nothing, too
abbrev pub unput : Outside → Outside
unput o = record o { put = None }

-- an ending of a run that puts nothing, before all its rounds were run
abbrev pub IsEarly : TraceEnd → Type 0
IsEarly end.Done = ⊥
IsEarly end.ReadFault = Unit {0}
IsEarly end.WriteFault = ⊥
IsEarly (end.Refused bad) = Unit {0}
IsEarly end.Records = Unit {0}
IsEarly end.Memory = Unit {0}

-- all rounds of the trace were run, memory was wanting in none, and the ports stand at their histories
pub record IsThrough (s : Setting) (start now : Outside) (name : List ℕ) (switch : SwitchNow) : Type 0 where
  pub bytes : List ℕ
  pub records : List Record
  pub rounds : List Round
  pub histories : List (List Event)
  pub since : Since start now
  pub later : start.input_faults ≤ now.input_faults
  pub whole : ReadsAll start.inputs now.inputs name bytes
  pub capture : IsCapture bytes records None
  pub few : length records ≤ most_records
  pub so : AreSoFar s records (cuts s.commands (length records)) rounds histories
  pub at : IsAt s histories switch
  pub short_is : are_short rounds ≡ false

-- how a run ended that put nothing
abbrev pub Leaves : Setting → Outside → Outside → List ℕ → SwitchNow → TraceEnd → Type 0
Leaves s start now name switch end.Done = IsThrough s (unput start) now name switch
Leaves s start now name switch end.ReadFault = RunsTrace s (unput start) now name end.ReadFault
Leaves s start now name switch end.WriteFault = ⊥
Leaves s start now name switch (end.Refused bad) = RunsTrace s (unput start) now name (end.Refused bad)
Leaves s start now name switch end.Records = RunsTrace s (unput start) now name end.Records
Leaves s start now name switch end.Memory = RunsTrace s (unput start) now name end.Memory

-- the next round was read, or the run ended
abbrev pub Stays : Setting → Outside → Outside → List ℕ → Run → SwitchNow → Result Stretch TraceEnd → Type 0
Stays s start now name run switch (Ok t) = IsFilled s (unput start) now name run switch t
Stays s start now name run switch (Err e) = Leaves s start now name switch e

-- the round that was read was run, if it is one, or there was no memory for it
abbrev pub RunsRead : Setting → Outside → Outside → List ℕ → Run → SwitchNow → Stretch → Result ⊤ NoMemory → Type 0
RunsRead s start now name run switch t (Ok u) = AfterPut s (unput start) now name run switch t t.stop
RunsRead s start now name run switch t (Err e) = RunsTrace s (unput start) now name end.Memory

-- a further round behind the trace was run, or there is none, or there was no memory for it
abbrev pub RunsNext : Setting → Outside → Outside → List ℕ → Bool → SwitchNow → Result (Option ℕ) NoMemory → Type 0
RunsNext s start now name short switch (Ok (Some next)) = IsPast s (unput start) now name short switch next
RunsNext s start now name short switch (Ok None) = Leaves s start now name switch (clean_of short)
RunsNext s start now name short switch (Err e) = RunsTrace s (unput start) now name end.Memory

-- ---- what is done, in whichever run it is that puts nothing

-- the first round is read of a trace that was opened, or the run ends
abbrev pub StaysFirst : List Line → Outside → Run → Outside → Run → Result Stretch TraceEnd → Type 0
StaysFirst lines before old after new r = (s : Setting) (start : Outside) (name : List ℕ) (switch : SwitchNow) → s.commands ≡ lines → IsOpened s (unput start) before name old switch
    → Stays s start after name new switch r

-- the round that was read is run, and the next one is read, or the run ends
abbrev pub StaysFurther : List Line → Outside → Run → SwitchNow → Stretch → Outside → Run → SwitchNow → Result Stretch TraceEnd → Type 0
StaysFurther lines before old was t after new is r = (s : Setting) (start : Outside) (name : List ℕ) → s.commands ≡ lines → IsFilled s (unput start) before name old was t
    → Stays s start after name new is r

-- the round that was read is run, if it is one
abbrev pub RunsFilled : List Line → Run → SwitchNow → Stretch → Run → SwitchNow → Result ⊤ NoMemory → Type 0
RunsFilled lines old was t new is r = (s : Setting) (start now : Outside) (name : List ℕ) → s.commands ≡ lines → IsFilled s (unput start) now name old was t
    → RunsRead s start now name new is t r

-- the next round behind the trace is run, if there is one
abbrev pub RunsBehind : List Line → Run → SwitchNow → ℕ → Run → SwitchNow → Result (Option ℕ) NoMemory → Type 0
RunsBehind lines old was first new is r = (s : Setting) (start now : Outside) (name : List ℕ) → s.commands ≡ lines → IsPast s (unput start) now name old.short was first
    → RunsNext s start now name new.short is r

-- all of them are, and the run ends
abbrev pub LeavesPast : List Line → Run → SwitchNow → ℕ → SwitchNow → TraceEnd → Type 0
LeavesPast lines run was first is e = (s : Setting) (start now : Outside) (name : List ℕ) → s.commands ≡ lines → IsPast s (unput start) now name run.short was first
    → Leaves s start now name is e

-- a run that stood so, where nothing is told of what was put, goes to its end
abbrev pub LeavesFrom : List Line → (Setting → Outside → List ℕ → Type 0) → Outside → SwitchNow → TraceEnd → Type 0
LeavesFrom lines stood after switch e = (s : Setting) (start : Outside) (name : List ℕ) → s.commands ≡ lines → stood s (unput start) name → Leaves s start after name switch e

-- ---- the rows file

-- rows of the first ports were written, so many, behind the front of a file
pub record IsWritten (s : Setting) (hs : List (List Event)) (place : ℕ) (before now : List ℕ) : Type 0 where
  pub rows : List PortRows
  pub exported : AreExported (take place (ports_of s.policy)) (take place hs) rows
  pub text_is : now ≡ before ++ flat_map port_bytes rows

-- the rows file of all ports at these histories
pub record IsFile (s : Setting) (hs : List (List Event)) (text : List ℕ) : Type 0 where
  pub rows : List PortRows
  pub exported : AreExported (ports_of s.policy) hs rows
  pub text_is : text ≡ rows_bytes rows

-- the rows file is put behind a run that put nothing
abbrev pub PutsRows : SwitchNow → Outside → Outside → TraceEnd → Type 0
PutsRows switch before after e = (s : Setting) (start : Outside) (name : List ℕ) → SameOutputs start before → IsThrough s (unput start) before name switch
    → ExportsTrace s start after name e
