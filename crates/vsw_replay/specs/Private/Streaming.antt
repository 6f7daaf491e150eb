-- The thread that leads while packets are handed over as they are read.
use Rattle.std.specs.Prelude.{◌≡◌, ℕ, List, ◌∷◌, [], ◌++◌, Option, Some, None, Result, Ok, Err, IfOk, OnOk}
use Rattle.vsw_commandfile.specs.declared.line.Line.{Line}
use Rattle.vsw_crew.specs.Crew.{CrewSeen, crew_now}
use Rattle.vsw_crew.specs.Shift.{HasNoneBeside}
use Rattle.vsw_crew.specs.StreamShares.{StreamSeen}
use Rattle.vsw_crew.specs.Streams.{IsFeeding}
use Rattle.vsw_crew.specs.Switch.{AreServed, SwitchNow}
use Rattle.vsw_crew.specs.declared.feeding.Feeding.{Feeding}
use Rattle.vsw_harbour.specs.Harbour.{HarbourSeen}
use Rattle.vsw_host.specs.Outside.{Outside}
use Rattle.vsw_pcap.specs.declared.capture.Record.{Record}
use Rattle.vsw_promise.specs.Jobs.{Setting}
use Rattle.vsw_reading.specs.declared.reading.Stop.{Stop}
use Rattle.vsw_reading.specs.declared.reading.Stop.TheVariants as stop
use Rattle.vsw_replay.specs.declared.begun.Turn.{Turn}
use Rattle.vsw_replay.specs.declared.begun.Turn.TheVariants as turn
use Rattle.vsw_replay.specs.declared.ending.TraceEnd.{TraceEnd}
use Rattle.vsw_replay.specs.declared.streaming.Streaming.{Streaming}
use Rattle.vsw_replay.specs.declared.trace.Run.{Run}
use Rattle.vsw_replay.specs.declared.trace.Stretch.{Stretch}
use Rattle.vsw_replay.specs.Private.Begun.{IsPart, NearTurn, Turns, TurnsTo}
use Rattle.vsw_replay.specs.Private.Going.{AfterPut}
use Rattle.vsw_replay.specs.Runs.{RunsTrace}

-- ---- packets that are handed over

-- all of these packets but the last were handed over
pub record IsFeedingBut (c : CrewSeen) (lines : List Line) (first : ℕ) (packets : List Record) (f : Feeding) (out : List StreamSeen) : Type 0 where
  pub before : List Record
  pub last : Record
  pub packets_are : packets ≡ before ++ last ∷ []
  pub feeding : IsFeeding c lines first before f out

-- so it is of some round
pub record HasToFeed (h : HarbourSeen) (packets : List Record) (f : Feeding) : Type 0 where
  pub crew : CrewSeen
  pub lines : List Line
  pub first : ℕ
  pub out : List StreamSeen
  pub harbour : crew.harbour ≡ h
  pub but : IsFeedingBut crew lines first packets f out

-- a further packet is to be handed over, or all of the round were
abbrev pub FeedsSo : CrewSeen → List Line → ℕ → List Record → Feeding → List StreamSeen → Option Stop → Type 0
FeedsSo c lines first packets f out None = IsFeedingBut c lines first packets f out
FeedsSo c lines first packets f out (Some st) = IsFeeding c lines first packets f out

-- the packet that was read last is handed over, whichever round it is of, and a further one is read, or none
abbrev pub FeedsOne : HarbourSeen → List Record → Feeding → List Record → Feeding → Option Stop → Type 0
FeedsOne h packets old more new st = (c : CrewSeen) (lines : List Line) (first : ℕ) (out : List StreamSeen) → c.harbour ≡ h → IsFeedingBut c lines first packets old out → FeedsSo c lines first more new out st

-- it and all that follow it in the round are handed over
abbrev pub FeedsAll : HarbourSeen → List Record → Feeding → List Record → Feeding → Type 0
FeedsAll h packets old more new = (c : CrewSeen) (lines : List Line) (first : ℕ) (out : List StreamSeen) → c.harbour ≡ h → IsFeedingBut c lines first packets old out → IsFeeding c lines first more new out

-- ---- a round

-- this round is next, has a packet, and no command runs beside its packets
pub record IsToStream (lines : List Line) (t : Turn) (begun : Stretch) : Type 0 where
  pub is : t ≡ turn.Begun begun
  pub full : begun.stop ≡ stop.Full
  pub quiet : HasNoneBeside lines begun.first

-- what the lead leaves as it was
pub record KeepsLead {J G : Type 0} (old new : Streaming J G) : Type 0 where
  pub schedule : new.schedule ≡ old.schedule
  pub turn : new.turn ≡ old.turn
  pub end : new.end ≡ old.end

-- its text was put, or the run ended
abbrev pub CarriesSo : Setting → Outside → Outside → List ℕ → Run → SwitchNow → Result Stretch TraceEnd → Type 0
CarriesSo s start now name run switch (Ok t) = AfterPut s start now name run switch t t.stop
CarriesSo s start now name run switch (Err e) = RunsTrace s start now name e

-- the round that was begun is handed over and carried, and its text is put
abbrev pub Carries : {J G : Type 0} → Stretch → Outside → Streaming J G → Outside → Streaming J G → Result Stretch TraceEnd → Type 0
Carries begun before old after new r = (s : Setting) (start : Outside) (name : List ℕ) → s.commands ≡ old.schedule.now → IsPart s start before name old.run (crew_now old.crew) begun.first begun.next
    → CarriesSo s start after name new.run (crew_now new.crew) r

-- it is, and then the next round is begun, or the trace ended
abbrev pub Streams : {J G : Type 0} → Stretch → Outside → Streaming J G → Outside → Streaming J G → Result Turn TraceEnd → Type 0
Streams begun before old after new r = (s : Setting) (start : Outside) (name : List ℕ) → s.commands ≡ old.schedule.now → IsPart s start before name old.run (crew_now old.crew) begun.first begun.next
    → TurnsTo s start after name new.run (crew_now new.crew) r

-- the lead's run goes from one turn to another, or ends
abbrev pub LeadTurns : {J G : Type 0} → Turn → Outside → Streaming J G → Outside → Streaming J G → Result Turn TraceEnd → Type 0
LeadTurns first before old after new r = Turns old.schedule.now before old.run (crew_now old.crew) (Ok first) after new.run (crew_now new.crew) r

-- ---- the lead

-- what is done next, or how the run ended
abbrev pub turned : Turn → Option TraceEnd → Result Turn TraceEnd
turned t None = Ok t
turned t (Some e) = Err e

-- a run between two rounds
pub record MayStream {J G : Type 0} (a : Streaming J G) (now : Outside) : Type 0 where
  pub served : AreServed (crew_now a.crew) a.schedule.now
  pub near : NearTurn now a.run a.turn
  pub end : a.end ≡ None

pub record StreamsTo {J G : Type 0} (old : Streaming J G) (before : Outside) (new : Streaming J G) (after : Outside) : Type 0 where
  pub goes : (s : Setting) (start : Outside) (name : List ℕ) → s.commands ≡ old.schedule.now → TurnsTo s start before name old.run (crew_now old.crew) (Ok old.turn) → TurnsTo s start after name new.run (crew_now new.crew) (turned new.turn new.end)
  pub near : IfOk (turned new.turn new.end) (λ t. NearTurn after new.run t)
  pub served : OnOk (turned new.turn new.end) (AreServed (crew_now new.crew) old.schedule.now)
