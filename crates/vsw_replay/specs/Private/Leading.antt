-- The thread that leads, while others stay.
use Rattle.std.specs.Prelude.{◌≡◌, ◌<◌, ◌≤◌, ◌||◌, ℕ, Bool, List, [], ◌∷◌, length, Option, Some, None, Result, Ok, Err, IfOk, OnOk, ⊤}
use Rattle.std.specs.Arc.{arc_value}
use Rattle.vsw_commandfile.specs.declared.line.Line.{Line}
use Rattle.vsw_harbour.specs.Harbour.{HarbourSeen}
use Rattle.vsw_host.specs.Outside.{Outside, DoesPut}
use Rattle.vsw_host.specs.declared.host.Failed.{Failed}
use Rattle.vsw_pcap.specs.declared.capture.Record.{Record}
use Rattle.vsw_promise.specs.Jobs.{Setting}
use Rattle.vsw_run.specs.Trace.{most_records}
use Rattle.vsw_report.specs.Print.{round_text}
use Rattle.vsw_report.specs.Short.{is_short_round}
use Rattle.vsw_report.specs.declared.round.Round.{Round}
use Rattle.vsw_crew.specs.Crew.{crew_now}
use Rattle.vsw_crew.specs.Shift.{HasNoneBeside, IsPicked, Owes}
use Rattle.vsw_crew.specs.Switch.{AreServed, SwitchNow}
use Rattle.vsw_crew.specs.declared.owed.Owed.{Owed}
use Rattle.vsw_reading.specs.declared.reading.Stop.TheVariants as stop
use Rattle.vsw_replay.specs.declared.ahead.Ahead.{Ahead}
use Rattle.vsw_replay.specs.declared.ahead.InHand.{InHand}
use Rattle.vsw_replay.specs.declared.ending.TraceEnd.{TraceEnd}
use Rattle.vsw_replay.specs.declared.ending.TraceEnd.TheVariants as end
use Rattle.vsw_replay.specs.declared.trace.Run.{Run}
use Rattle.vsw_replay.specs.declared.trace.Stretch.{Stretch}
use Rattle.vsw_replay.specs.Private.Ahead.{IsAhead, IsOwing, none_left, with_batch}
use Rattle.vsw_replay.specs.Private.Going.{GoesOn, IsFilled, IsNear}
use Rattle.vsw_replay.specs.Runs.{RunsTrace}

-- ---- the round that goes out

-- the run, with the packets of the round that was taken out of it
abbrev pub with_round : Run → Option InHand → Run
with_round run None = run
with_round run (Some r) = with_batch run (arc_value r.packets)

-- a whole round with packets, behind which the trace may be read on, and in which no command runs beside the packets
pub record IsFit (lines : List Line) (run : Run) (t : Stretch) : Type 0 where
  pub some : 0 < length run.reading.batch
  pub full : t.stop ≡ stop.Full
  pub low : t.next < most_records
  pub quiet : HasNoneBeside lines t.first

abbrev pub IsPickedFor : HarbourSeen → List Line → Run → Stretch → Option InHand → Type 0
IsPickedFor h lines run t None = Unit {0}
IsPickedFor h lines run t (Some r) = IsPicked h t.first (arc_value r.packets) r.picked × IsFit lines run t

-- ---- the round that is to be told

abbrev pub HasText : HarbourSeen → Owed → Type 0
HasText h o = (text : List ℕ) × (short : Bool) × Owes h o text short

abbrev pub MayOwe : HarbourSeen → Option Owed → Type 0
MayOwe h None = Unit {0}
MayOwe h (Some o) = HasText h o

-- these rounds are still to be told: none, or the one that is owed
abbrev pub left_by : HarbourSeen → Option Owed → List Round → Type 0
left_by h None rounds = none_left rounds
left_by h (Some o) rounds = (r : Round) × (rounds ≡ r ∷ []) × Owes h o (round_text r) (is_short_round r)

-- the text was put, or a front of it, or there was no memory for it
abbrev pub Paid : Outside → Outside → Bool → Bool → List ℕ → Bool → Result ⊤ TraceEnd → Type 0
Paid old now was is text short (Ok u) = DoesPut old now text (Ok u) × (is ≡ (was || short))
Paid old now was is text short (Err end.WriteFault) = (e : Failed) × DoesPut old now text (Err e)
Paid old now was is text short (Err end.Memory) = now ≡ old
Paid old now was is text short (Err e) = ⊥

-- nothing is owed any more, or the run ended
abbrev pub SettlesSo : Setting → Outside → Outside → List ℕ → Run → SwitchNow → Stretch → Result ⊤ TraceEnd → Type 0
SettlesSo s start now name run switch t (Ok u) = IsOwing s start now name run switch none_left t
SettlesSo s start now name run switch t (Err e) = RunsTrace s start now name e

-- what is owed is settled, whichever packets are in the batch
abbrev pub Settles : HarbourSeen → Option Owed → Outside → Run → Outside → Run → Result ⊤ TraceEnd → Type 0
Settles h owed before old after new r = (s : Setting) (start : Outside) (name : List ℕ) (packets : List Record) (switch : SwitchNow) (t : Stretch) → IsOwing s start before name (with_batch old packets) switch (left_by h owed) t
    → SettlesSo s start after name (with_batch new packets) switch t r

-- the next round was read while one is out, or the run ended
abbrev pub AheadSo : Setting → Outside → Outside → List ℕ → Run → SwitchNow → ℕ → List Record → Result Stretch TraceEnd → Type 0
AheadSo s start now name run switch first packets (Ok t) = IsAhead s start now name run switch first packets t
AheadSo s start now name run switch first packets (Err e) = RunsTrace s start now name e

-- what is owed is settled, and the next round is read, whichever packets the round has that is out
abbrev pub ReadsMeanwhile : List Line → HarbourSeen → Option Owed → Stretch → Outside → Run → Outside → Run → Result Stretch TraceEnd → Type 0
ReadsMeanwhile lines h owed t before old after new r = (s : Setting) (start : Outside) (name : List ℕ) (packets : List Record) (switch : SwitchNow) → s.commands ≡ lines → 0 < length packets
    → IsOwing s start before name (with_batch old packets) switch (left_by h owed) t → AheadSo s start after name new switch t.first packets r

-- ---- the lead

-- between two rounds, of which the next one may have been taken out
pub record IsLeading {J G : Type 0} (a : Ahead J G) (round : Option InHand) (now : Outside) : Type 0 where
  pub served : AreServed (crew_now a.crew) a.schedule.now
  pub near : IsNear now (with_round a.run round) a.stretch
  pub owes : MayOwe a.crew.harbour a.owed
  pub picked : IsPickedFor a.crew.harbour a.schedule.now (with_round a.run round) a.stretch round

abbrev pub OwesAt : {J G : Type 0} → Setting → Outside → Outside → List ℕ → Ahead J G → Option InHand → Type 0
OwesAt s start now name a round = IsOwing s start now name (with_round a.run round) (crew_now a.crew) (left_by a.crew.harbour a.owed) a.stretch

-- a round was done, or the run ended
abbrev pub StepsTo : {J G : Type 0} → Setting → Outside → Outside → List ℕ → Ahead J G → Result ⊤ TraceEnd → Type 0
StepsTo s start now name a (Ok u) = OwesAt s start now name a a.picked
StepsTo s start now name a (Err e) = RunsTrace s start now name e

-- in whichever run with its commands, the lead does this round, beside which it reads the next one
abbrev pub DoesRound : {J G : Type 0} → Outside → Ahead J G → Option InHand → Outside → Ahead J G → Result ⊤ TraceEnd → Type 0
DoesRound before old round after new r = (s : Setting) (start : Outside) (name : List ℕ) → s.commands ≡ old.schedule.now → OwesAt s start before name old round
    → StepsTo s start after name new r

-- nothing is owed, and a round was read that is run otherwise, or the run ended
abbrev pub LedSo : Setting → Outside → Outside → List ℕ → Run → SwitchNow → Stretch → Result ⊤ TraceEnd → Type 0
LedSo s start now name run switch t (Ok u) = IsFilled s start now name run switch t
LedSo s start now name run switch t (Err e) = RunsTrace s start now name e

abbrev pub Led : {J G : Type 0} → Setting → Outside → Outside → List ℕ → Ahead J G → Result ⊤ TraceEnd → Type 0
Led s start now name a r = LedSo s start now name a.run (crew_now a.crew) a.stretch r

-- the lead does rounds as long as the next one goes out, from the one that it picked
abbrev pub DoesRounds : {J G : Type 0} → Outside → Ahead J G → Outside → Ahead J G → Result ⊤ TraceEnd → Type 0
DoesRounds before old after new r = (s : Setting) (start : Outside) (name : List ℕ) → s.commands ≡ old.schedule.now → OwesAt s start before name old old.picked
    → Led s start after name new r

-- and from the one that was read first
abbrev pub LeadsAll : {J G : Type 0} → Outside → Ahead J G → Outside → Ahead J G → Result ⊤ TraceEnd → Type 0
LeadsAll before old after new r = (s : Setting) (start : Outside) (name : List ℕ) → s.commands ≡ old.schedule.now → IsFilled s start before name old.run (crew_now old.crew) old.stretch
    → Led s start after name new r

-- what picking a round leaves as it was
pub record StaysBeside {J G : Type 0} (old new : Ahead J G) : Type 0 where
  pub crew : new.crew ≡ old.crew
  pub schedule : new.schedule ≡ old.schedule
  pub stretch : new.stretch ≡ old.stretch
  pub owed : new.owed ≡ old.owed
  pub end : new.end ≡ old.end

-- what reading on leaves as it was
pub record KeepsCrew {J G : Type 0} (old new : Ahead J G) : Type 0 where
  pub crew : new.crew ≡ old.crew
  pub schedule : new.schedule ≡ old.schedule
  pub end : new.end ≡ old.end

-- the next round was read and picked while one is out, or the run ended
abbrev pub GoesAhead : {J G : Type 0} → Setting → Outside → Outside → List ℕ → Ahead J G → SwitchNow → ℕ → List Record → Result ⊤ TraceEnd → Type 0
GoesAhead s start now name a switch first packets (Ok u) = IsAhead s start now name (with_round a.run a.picked) switch first packets a.stretch
GoesAhead s start now name a switch first packets (Err e) = RunsTrace s start now name e

-- the lead does so, whichever packets the round has that is out
abbrev pub GoesMeanwhile : {J G : Type 0} → Outside → Ahead J G → Outside → Ahead J G → Result ⊤ TraceEnd → Type 0
GoesMeanwhile before old after new r = (s : Setting) (start : Outside) (name : List ℕ) (packets : List Record) (switch : SwitchNow) → s.commands ≡ old.schedule.now → 0 < length packets
    → IsOwing s start before name (with_batch old.run packets) switch (left_by old.crew.harbour old.owed) old.stretch → GoesAhead s start after name new switch old.stretch.first packets r

-- the first round was read and run in no part, and nothing is owed
pub record MayLead {J G : Type 0} (a : Ahead J G) (now : Outside) : Type 0 where
  pub served : AreServed (crew_now a.crew) a.schedule.now
  pub near : IsNear now a.run a.stretch
  pub owed : a.owed ≡ None
  pub end : a.end ≡ None

-- the next round, or how the run ended
abbrev pub outcome : Stretch → Option TraceEnd → Result Stretch TraceEnd
outcome t None = Ok t
outcome t (Some e) = Err e

pub record LeadsTo {J G : Type 0} (old : Ahead J G) (before : Outside) (new : Ahead J G) (after : Outside) : Type 0 where
  pub goes : (s : Setting) (start : Outside) (name : List ℕ) → s.commands ≡ old.schedule.now → IsFilled s start before name old.run (crew_now old.crew) old.stretch → GoesOn s start after name new.run (crew_now new.crew) (outcome new.stretch new.end)
  pub near : IfOk (outcome new.stretch new.end) (λ t. IsNear after new.run t)
  pub served : OnOk (outcome new.stretch new.end) (AreServed (crew_now new.crew) old.schedule.now)
  pub rises : IfOk (outcome new.stretch new.end) (λ t. old.stretch.first ≤ t.first)
