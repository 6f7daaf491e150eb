-- Rounds whose records are read one by one, and what is done after a round.
use Rattle.std.specs.Prelude.{◌≡◌, ◌<◌, ◌≤◌, ◌+◌, ℕ, List, [], ◌∷◌, ◌++◌, length, Option, Some, None, Result, Ok, Err}
use Rattle.vsw_base.specs.declared.fault.NoMemory.{NoMemory}
use Rattle.vsw_commandfile.specs.declared.line.Line.{Line}
use Rattle.vsw_host.specs.Outside.{Outside, Grows}
use Rattle.vsw_pcap.specs.declared.capture.Record.{Record}
use Rattle.vsw_port.specs.declared.event.Event.{Event}
use Rattle.vsw_promise.specs.Jobs.{Setting, cuts_within}
use Rattle.vsw_run.specs.Trace.{most_records}
use Rattle.vsw_report.specs.Print.{report_text}
use Rattle.vsw_report.specs.Short.{are_short}
use Rattle.vsw_report.specs.declared.round.Round.{Round}
use Rattle.vsw_crew.specs.Switch.{SwitchNow, IsAt}
use Rattle.vsw_reading.specs.Reads.{IsRead}
use Rattle.vsw_reading.specs.declared.reading.Stop.{Stop}
use Rattle.vsw_reading.specs.declared.reading.Stop.TheVariants as stop
use Rattle.vsw_replay.specs.declared.begun.Turn.{Turn}
use Rattle.vsw_replay.specs.declared.begun.Turn.TheVariants as turn
use Rattle.vsw_replay.specs.declared.ending.TraceEnd.{TraceEnd}
use Rattle.vsw_replay.specs.declared.ending.TraceEnd.TheVariants as end
use Rattle.vsw_replay.specs.declared.trace.Run.{Run}
use Rattle.vsw_replay.specs.declared.trace.Stretch.{Stretch}
use Rattle.vsw_replay.specs.Private.Cut.{IsCut, IsNextCut}
use Rattle.vsw_replay.specs.Private.Going.{AfterPut, GoesOn, IsFilled, IsFirst, IsNear, IsPast, Since}
use Rattle.vsw_replay.specs.Private.SoFar.{AreSoFar}
use Rattle.vsw_replay.specs.Runs.{RunsTrace}

-- ---- a round that is being read

-- the rounds up to a cut were put, and of the round that begins there some records are in the batch; further ones may follow
pub record IsPart (s : Setting) (start now : Outside) (name : List ℕ) (run : Run) (switch : SwitchNow) (first next : ℕ) : Type 0 where
  pub bytes : List ℕ
  pub given : List Record
  pub rounds : List Round
  pub histories : List (List Event)
  pub since : Since start now
  pub read : IsRead start now name run.reading bytes (given ++ run.reading.batch)
  pub some : 0 < length run.reading.batch
  pub count : length given ≡ first
  pub low : first < most_records
  pub cut : IsCut s.commands first
  pub after : IsNextCut s.commands first next
  pub so : AreSoFar s given (cuts_within s.commands first) rounds histories
  pub at : IsAt s histories switch
  pub short_is : are_short rounds ≡ run.short
  pub puts : Grows start.put now.put (report_text rounds)

-- the reading of the round stopped so before its first record, or this was read
abbrev pub BegunBy : Setting → Outside → Outside → List ℕ → Run → SwitchNow → Stretch → Stop → Type 0
BegunBy s start now name run switch t stop.Full = IsPart s start now name run switch t.first t.next
BegunBy s start now name run switch t stop.End = IsFilled s start now name run switch t
BegunBy s start now name run switch t stop.Fault = IsFilled s start now name run switch t
BegunBy s start now name run switch t (stop.Bad bad) = IsFilled s start now name run switch t

-- the rounds up to a cut were put, and the first record of the round that begins there was read, if there is one
abbrev pub IsBegun : Setting → Outside → Outside → List ℕ → Run → SwitchNow → Stretch → Type 0
IsBegun s start now name run switch t = BegunBy s start now name run switch t t.stop

-- the next round was begun, or the run ended
abbrev pub BeginsSo : Setting → Outside → Outside → List ℕ → Run → SwitchNow → Result Stretch TraceEnd → Type 0
BeginsSo s start now name run switch (Ok t) = IsBegun s start now name run switch t
BeginsSo s start now name run switch (Err e) = RunsTrace s start now name e

-- the head line is put, if a header was accepted where the first record was read, or the run ends
abbrev pub PutsHeadBegun : Outside → Run → Stretch → Outside → Result Stretch TraceEnd → Type 0
PutsHeadBegun before run t after r = (s : Setting) (start : Outside) (name : List ℕ) (switch : SwitchNow)
    → IsFirst s start before name run switch t 1 → BeginsSo s start after name run switch r

-- the next round is begun of a run that stood so, with whichever switch, or the run ends
abbrev pub BeginsRound : List Line → (Setting → Outside → List ℕ → SwitchNow → Type 0) → Outside → Run → Result Stretch TraceEnd → Type 0
BeginsRound lines stood after new r = (s : Setting) (start : Outside) (name : List ℕ) (switch : SwitchNow) → s.commands ≡ lines → stood s start name switch
    → BeginsSo s start after name new switch r

-- one record was read if any
abbrev pub IsOneRead : Stop → ℕ → Type 0
IsOneRead stop.Full n = n ≡ 1
IsOneRead stop.End n = Unit {0}
IsOneRead stop.Fault n = Unit {0}
IsOneRead (stop.Bad bad) n = Unit {0}

-- a round that was begun
pub record IsNearBegun (now : Outside) (run : Run) (t : Stretch) : Type 0 where
  pub near : IsNear now run t
  pub one : IsOneRead t.stop (length run.reading.batch)

-- ---- one record more

-- why the reading goes no further, where as many as asked for are no reason
abbrev pub why_not_of : Stop → Option Stop
why_not_of stop.Full = None
why_not_of stop.End = Some stop.End
why_not_of stop.Fault = Some stop.Fault
why_not_of (stop.Bad bad) = Some (stop.Bad bad)

-- the round with this reason why the reading stopped
abbrev pub stopped_by : Stretch → Stop → Stretch
stopped_by t st = record { first = t.first; next = t.next; stop = st }

-- the round is still being read, or it was read as far as it goes, or there was no memory
abbrev pub PartSo : Setting → Outside → Outside → List ℕ → Run → SwitchNow → Stretch → Result (Option Stop) NoMemory → Type 0
PartSo s start now name run switch t (Ok None) = IsPart s start now name run switch t.first t.next
PartSo s start now name run switch t (Ok (Some st)) = IsFilled s start now name run switch (stopped_by t st)
PartSo s start now name run switch t (Err e) = RunsTrace s start now name end.Memory

abbrev pub PartNear : Outside → Run → Stretch → Option Stop → Type 0
PartNear now run t None = IsNear now run t × (t.first + length run.reading.batch ≤ t.next)
PartNear now run t (Some st) = IsNear now run (stopped_by t st)

-- a record came behind those of the batch, or none
abbrev pub AddsTo : List Record → List Record → Option Stop → Type 0
AddsTo old new None = (last : Record) × (new ≡ old ++ last ∷ [])
AddsTo old new (Some st) = new ≡ old

-- the round was read as far as it goes, or there was no memory
abbrev pub FilledSo : Setting → Outside → Outside → List ℕ → Run → SwitchNow → Result Stretch NoMemory → Type 0
FilledSo s start now name run switch (Ok t) = IsFilled s start now name run switch t
FilledSo s start now name run switch (Err e) = RunsTrace s start now name end.Memory

-- one record more is read of the round that was begun, if there is one
abbrev pub ReadsOne : Stretch → Outside → Run → Outside → Run → Result (Option Stop) NoMemory → Type 0
ReadsOne begun before old after new r = (s : Setting) (start : Outside) (name : List ℕ) (switch : SwitchNow) → IsPart s start before name old switch begun.first begun.next
    → PartSo s start after name new switch begun r

-- all further records of it are read, where it has one
abbrev pub FillsRound : Stretch → Outside → Run → Outside → Run → Result Stretch NoMemory → Type 0
FillsRound begun before old after new r = (s : Setting) (start : Outside) (name : List ℕ) (switch : SwitchNow) → IsPart s start before name old switch begun.first begun.next
    → FilledSo s start after name new switch r

-- the same, where it has one or none
abbrev pub ReadsRest : Stretch → Outside → Run → Outside → Run → Result Stretch TraceEnd → Type 0
ReadsRest begun before old after new r = (s : Setting) (start : Outside) (name : List ℕ) (switch : SwitchNow) → IsBegun s start before name old switch begun
    → GoesOn s start after name new switch r

-- ---- what is done next

abbrev pub TurnsTo : Setting → Outside → Outside → List ℕ → Run → SwitchNow → Result Turn TraceEnd → Type 0
TurnsTo s start now name run switch (Ok (turn.Begun t)) = IsBegun s start now name run switch t
TurnsTo s start now name run switch (Ok (turn.Past first)) = IsPast s start now name run.short switch first
TurnsTo s start now name run switch (Err e) = RunsTrace s start now name e

-- behind a round that was put, it is found what is done next, or the run ends
abbrev pub Follows : List Line → Stretch → Outside → Run → Outside → Run → Result Turn TraceEnd → Type 0
Follows lines t before old after new r = (s : Setting) (start : Outside) (name : List ℕ) (switch : SwitchNow) → s.commands ≡ lines → AfterPut s start before name old switch t t.stop
    → TurnsTo s start after name new switch r

-- a run goes from one turn to another, or ends
abbrev pub Turns : List Line → Outside → Run → SwitchNow → Result Turn TraceEnd → Outside → Run → SwitchNow → Result Turn TraceEnd → Type 0
Turns lines before old was from after new is r = (s : Setting) (start : Outside) (name : List ℕ) → s.commands ≡ lines → TurnsTo s start before name old was from → TurnsTo s start after name new is r

abbrev pub NearTurn : Outside → Run → Turn → Type 0
NearTurn now run (turn.Begun t) = IsNearBegun now run t
NearTurn now run (turn.Past first) = Unit {0}
