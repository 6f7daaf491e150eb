-- A run in the midst of its rounds.
use Rattle.std.specs.Prelude.{◌≡◌, ◌<◌, ◌≤◌, ◌+◌, ◌||◌, ◌&&◌, ◌==◌, not, ℕ, Bool, true, false, List, [], ◌++◌, length, map, nat_lt, if◌then◌else◌, Option, Some, None, Result, Ok, Err, ⊤}
use Rattle.vsw_commandfile.specs.declared.line.Line.{Line}
use Rattle.vsw_port.specs.declared.event.Event.{Event}
use Rattle.vsw_host.specs.Outside.{Outside, Grows, Rose, DoesPut}
use Rattle.vsw_host.specs.Source.{IsReading}
use Rattle.vsw_host.specs.Told.{ReadsAll}
use Rattle.vsw_host.specs.declared.host.Failed.{Failed}
use Rattle.vsw_pcap.specs.Capture.{IsCapture}
use Rattle.vsw_pcap.specs.declared.capture.Record.{Record}
use Rattle.vsw_pcap.specs.declared.fault.BadTrace.{BadTrace}
use Rattle.vsw_pcap.specs.declared.fault.BadTrace.TheVariants.{NotPcap, Version, LinkType, Cut, Huge}
use Rattle.vsw_promise.specs.Ports.{ports_of}
use Rattle.vsw_promise.specs.Jobs.{Setting, cuts_within}
use Rattle.vsw_run.specs.Trace.{most_records}
use Rattle.vsw_report.specs.Print.{report_text}
use Rattle.vsw_report.specs.Short.{are_short}
use Rattle.vsw_report.specs.declared.round.Round.{Round}
use Rattle.vsw_report.specs.Whole.{whole_text}
use Rattle.vsw_crew.specs.Round.{TellsRound}
use Rattle.vsw_crew.specs.Switch.{SwitchNow, IsAt}
use Rattle.vsw_replay.specs.declared.ending.TraceEnd.{TraceEnd}
use Rattle.vsw_replay.specs.declared.ending.TraceEnd.TheVariants as end
use Rattle.vsw_reading.specs.declared.reading.Reading.{Reading}
use Rattle.vsw_reading.specs.declared.reading.Stop.{Stop}
use Rattle.vsw_reading.specs.declared.reading.Stop.TheVariants as stop
use Rattle.vsw_replay.specs.declared.trace.Run.{Run}
use Rattle.vsw_replay.specs.declared.trace.Stretch.{Stretch}
use Rattle.vsw_replay.specs.Private.Cut.{is_named_by, IsCut, IsNextCut, cuts_until, AreBehind}
use Rattle.vsw_replay.specs.Private.Pauses.{Pauses}
use Rattle.vsw_reading.specs.Passed.{IsPassed}
use Rattle.vsw_reading.specs.Reads.{IsRead, IsOpen, StopsSo}
use Rattle.vsw_replay.specs.Runs.{RunsTrace}
use Rattle.vsw_replay.specs.Private.SoFar.{AreSoFar}

-- nothing was complained since, and the faults of puts only rose
pub record Since (start now : Outside) : Type 0 where
  pub complained : now.complained ≡ start.complained
  pub complain_faults : now.complain_faults ≡ start.complain_faults
  pub puts_later : start.put_faults ≤ now.put_faults

-- the end alone shows that a record is cut
abbrev pub IsShown : Outside → Outside → List ℕ → List ℕ → BadTrace → Type 0
IsShown start now name bytes bad = (at : ℕ) → bad ≡ Cut at → ReadsAll start.inputs now.inputs name bytes

-- what shows why the reading stopped after these records
abbrev pub ShowsStop : Outside → Outside → List ℕ → Reading → List ℕ → List Record → Stop → Type 0
ShowsStop start now name r bytes records stop.Full = IsRead start now name r bytes records
ShowsStop start now name r bytes records stop.End = ReadsAll start.inputs now.inputs name bytes × IsCapture bytes records None × (length records ≤ most_records)
ShowsStop start now name r bytes records stop.Fault = Rose start.input_faults now.input_faults × Pauses bytes records × (length records ≤ most_records)
ShowsStop start now name r bytes records (stop.Bad bad) = IsShown start now name bytes bad × IsCapture bytes records (Some bad) × (length records < most_records)

-- a round that isn't whole ends before the next cut
abbrev pub IsAsLong : Stop → ℕ → ℕ → Type 0
IsAsLong stop.Full next total = (total ≡ next) × (next ≤ most_records)
IsAsLong stop.End next total = total < next
IsAsLong stop.Fault next total = total < next
IsAsLong (stop.Bad bad) next total = total < next

-- the rounds up to a cut were put, and the records of the round that begins there are in the batch
pub record IsFilled (s : Setting) (start now : Outside) (name : List ℕ) (run : Run) (switch : SwitchNow) (t : Stretch) : Type 0 where
  pub bytes : List ℕ
  pub given : List Record
  pub rounds : List Round
  pub histories : List (List Event)
  pub since : Since start now
  pub reading : IsReading start now name run.reading.source.file bytes
  pub passed : IsPassed bytes (given ++ run.reading.batch)
  pub count : length given ≡ t.first
  pub cut : IsCut s.commands t.first
  pub next : IsNextCut s.commands t.first t.next
  pub long : IsAsLong t.stop t.next (length (given ++ run.reading.batch))
  pub shows : ShowsStop start now name run.reading bytes (given ++ run.reading.batch) t.stop
  pub so : AreSoFar s given (cuts_within s.commands t.first) rounds histories
  pub at : IsAt s histories switch
  pub short_is : are_short rounds ≡ run.short
  pub puts : Grows start.put now.put (report_text rounds)

-- the rounds up to this cut were put, and the records before it were read
pub record IsBetween (s : Setting) (start now : Outside) (name : List ℕ) (run : Run) (switch : SwitchNow) (first : ℕ) : Type 0 where
  pub bytes : List ℕ
  pub given : List Record
  pub rounds : List Round
  pub histories : List (List Event)
  pub since : Since start now
  pub read : IsRead start now name run.reading bytes given
  pub some : 0 < length given
  pub count : length given ≡ first
  pub few : first ≤ most_records
  pub cut : IsCut s.commands first
  pub so : AreSoFar s given (cuts_within s.commands first) rounds histories
  pub at : IsAt s histories switch
  pub short_is : are_short rounds ≡ run.short
  pub puts : Grows start.put now.put (report_text rounds)

-- the trace ended, and the rounds up to the one that begins with this packet were put
pub record IsPast (s : Setting) (start now : Outside) (name : List ℕ) (short : Bool) (switch : SwitchNow) (first : ℕ) : Type 0 where
  pub bytes : List ℕ
  pub records : List Record
  pub rounds : List Round
  pub histories : List (List Event)
  pub since : Since start now
  pub later : start.input_faults ≤ now.input_faults
  pub whole : ReadsAll start.inputs now.inputs name bytes
  pub capture : IsCapture bytes records None
  pub few : length records ≤ most_records
  pub behind : AreBehind s.commands first (length records)
  pub so : AreSoFar s records (cuts_until s.commands (length records) (first + 1)) rounds histories
  pub at : IsAt s histories switch
  pub short_is : are_short rounds ≡ short
  pub puts : Grows start.put now.put (report_text rounds)

-- a round was put; then the next one begins, or the run is past its trace, or ends
abbrev pub AfterPut : Setting → Outside → Outside → List ℕ → Run → SwitchNow → Stretch → Stop → Type 0
AfterPut s start now name run switch t stop.Full = IsBetween s start now name run switch t.next
AfterPut s start now name run switch t stop.End = IsPast s start now name run.short switch t.first
AfterPut s start now name run switch t stop.Fault = RunsTrace s start now name end.ReadFault
AfterPut s start now name run switch t (stop.Bad bad) = RunsTrace s start now name (end.Refused bad)

-- the same, or the run ended in it
abbrev pub PutsStretch : Setting → Outside → Outside → List ℕ → Run → SwitchNow → Stretch → Result ⊤ TraceEnd → Type 0
PutsStretch s start now name run switch t (Ok u) = AfterPut s start now name run switch t t.stop
PutsStretch s start now name run switch t (Err e) = RunsTrace s start now name e

-- the next round was read, or the run ended
abbrev pub GoesOn : Setting → Outside → Outside → List ℕ → Run → SwitchNow → Result Stretch TraceEnd → Type 0
GoesOn s start now name run switch (Ok t) = IsFilled s start now name run switch t
GoesOn s start now name run switch (Err e) = RunsTrace s start now name e

-- the ending of a trace that ended cleanly
abbrev pub clean_of : Bool → TraceEnd
clean_of true = end.Memory
clean_of false = end.Done

-- a further round behind the trace was put, or there is none, or the run ended in it
abbrev pub PutsNext : Setting → Outside → Outside → List ℕ → Bool → SwitchNow → Result (Option ℕ) TraceEnd → Type 0
PutsNext s start now name short switch (Ok (Some next)) = IsPast s start now name short switch next
PutsNext s start now name short switch (Ok None) = RunsTrace s start now name (clean_of short)
PutsNext s start now name short switch (Err e) = RunsTrace s start now name e

-- the round of the batch was run, and its text is in the room
pub record IsTurn (s : Setting) (hs : List (List Event)) (first : ℕ) (old new : Run) (switch : SwitchNow) : Type 0 where
  pub short : Bool
  pub ran : TellsRound s hs first old.reading.batch switch short [] (whole_text new.text)
  pub short_is : new.short ≡ (old.short || short)

-- and was put, or a front of it
abbrev pub PutsRound : Setting → List (List Event) → ℕ → Run → Run → SwitchNow → Outside → Outside → Result ⊤ TraceEnd → Type 0
PutsRound s hs first old new switch before after (Ok u) = IsTurn s hs first old new switch × DoesPut before after (whole_text new.text) (Ok u)
PutsRound s hs first old new switch before after (Err end.WriteFault) = IsTurn s hs first old new switch × ((e : Failed) × DoesPut before after (whole_text new.text) (Err e))
PutsRound s hs first old new switch before after (Err end.Memory) = after ≡ before
PutsRound s hs first old new switch before after (Err e) = ⊥

-- a trace that was opened, and of which nothing was read or put
pub record IsOpened (s : Setting) (start now : Outside) (name : List ℕ) (run : Run) (switch : SwitchNow) : Type 0 where
  pub since : Since start now
  pub read : IsRead start now name run.reading [] []
  pub batch : run.reading.batch ≡ []
  pub at : IsAt s (map (λ p. []) (ports_of s.policy)) switch
  pub short_is : run.short ≡ false
  pub puts : Grows start.put now.put []

-- of its first round so many records were read, or the reading stopped before, and nothing was put
pub record IsFirst (s : Setting) (start now : Outside) (name : List ℕ) (run : Run) (switch : SwitchNow) (t : Stretch) (most : ℕ) : Type 0 where
  pub since : Since start now
  pub first : t.first ≡ 0
  pub next : IsNextCut s.commands 0 t.next
  pub stops : StopsSo start now name run.reading [] most t.stop
  pub at : IsAt s (map (λ p. []) (ports_of s.policy)) switch
  pub short_is : run.short ≡ false
  pub puts : Grows start.put now.put []

abbrev pub is_end : Stop → Bool
is_end stop.Full = false
is_end stop.End = true
is_end stop.Fault = false
is_end (stop.Bad bad) = false

-- a round is run if it has packets, or if the trace ended and the round is the first or has commands
abbrev pub is_run_of : List Line → ℕ → ℕ → Stop → Bool
is_run_of commands count first stop = not (count == 0) || (is_end stop && ((first == 0) || is_named_by commands first))

-- how a run ends whose first round stopped before a header was accepted, where so many bytes were read, counted up to 24
abbrev pub unheaded_of : Stop → ℕ → Option TraceEnd
unheaded_of stop.Full seen = None
unheaded_of stop.End seen = None
unheaded_of stop.Fault seen = if nat_lt seen 24 then Some end.ReadFault else None
unheaded_of (stop.Bad NotPcap) seen = Some (end.Refused NotPcap)
unheaded_of (stop.Bad Version) seen = Some (end.Refused Version)
unheaded_of (stop.Bad LinkType) seen = Some (end.Refused LinkType)
unheaded_of (stop.Bad (Cut at)) seen = None
unheaded_of (stop.Bad (Huge at)) seen = None

-- a whole round is followed by another, for which the trace can be read on
abbrev pub CanRead : Outside → Run → ℕ → Stop → Type 0
CanRead now run next stop.Full = IsOpen now run.reading × (next ≤ most_records)
CanRead now run next stop.End = Unit {0}
CanRead now run next stop.Fault = Unit {0}
CanRead now run next (stop.Bad bad) = Unit {0}

-- a round that was read
pub record IsNear (now : Outside) (run : Run) (t : Stretch) : Type 0 where
  pub low : t.first ≤ most_records
  pub rises : t.first < t.next
  pub size : length run.reading.batch ≤ most_records
  pub goes : CanRead now run t.next t.stop

-- ---- what is done, in whichever run it is

-- the head line is put, if a header was accepted where the first round was read, or the run ends
abbrev pub PutsHead : Outside → Run → Stretch → Outside → Result Stretch TraceEnd → Type 0
PutsHead before run t after r = (s : Setting) (start : Outside) (name : List ℕ) (switch : SwitchNow)
    → IsFirst s start before name run switch t t.next → GoesOn s start after name run switch r

-- the next round is read of one that stood so, with whichever switch, or the run ends
abbrev pub ReadsRound : List Line → (Setting → Outside → List ℕ → SwitchNow → Type 0) → Outside → Run → Result Stretch TraceEnd → Type 0
ReadsRound lines stood after new r = (s : Setting) (start : Outside) (name : List ℕ) (switch : SwitchNow) → s.commands ≡ lines → stood s start name switch
    → GoesOn s start after name new switch r

-- the round that was read is put, if it is one
abbrev pub PutsFilled : List Line → Outside → Run → SwitchNow → Stretch → Outside → Run → SwitchNow → Result ⊤ TraceEnd → Type 0
PutsFilled lines before old was t after new is r = (s : Setting) (start : Outside) (name : List ℕ) → s.commands ≡ lines → IsFilled s start before name old was t
    → PutsStretch s start after name new is t r

-- rounds are put, from the one that was read to another that is then read, or the run ends
abbrev pub GoesFurther : List Line → Outside → Run → SwitchNow → Stretch → Outside → Run → SwitchNow → Result Stretch TraceEnd → Type 0
GoesFurther lines before old was t after new is r = (s : Setting) (start : Outside) (name : List ℕ) → s.commands ≡ lines → IsFilled s start before name old was t
    → GoesOn s start after name new is r

-- the next round behind the trace is put, if there is one
abbrev pub PutsBehind : List Line → Outside → Run → SwitchNow → ℕ → Outside → Run → SwitchNow → Result (Option ℕ) TraceEnd → Type 0
PutsBehind lines before old was first after new is r = (s : Setting) (start : Outside) (name : List ℕ) → s.commands ≡ lines → IsPast s start before name old.short was first
    → PutsNext s start after name new.short is r

-- a run that stood so goes to its end
abbrev pub RunsOut : List Line → (Setting → Outside → List ℕ → Type 0) → Outside → TraceEnd → Type 0
RunsOut lines stood after e = (s : Setting) (start : Outside) (name : List ℕ) → s.commands ≡ lines → stood s start name → RunsTrace s start after name e
