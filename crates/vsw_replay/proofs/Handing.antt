-- Packets that are handed over as they are read, and the thread that leads meanwhile.
use Rattle.std.proofs.Common.{◌≡◌, ◌<◌, ◌≤◌, ◌+◌, ◌||◌, ◌==◌, not, ℕ, Bool, true, Option, Some, None, Result, Ok, Err, IfOk, OnErr, OnOk, List, [], ◌∷◌, ◌++◌, length, refl, sym, ◌∙◌, ap, subst, arith, length-append}
use Rattle.std.specs.Bool.{⊤}
use Rattle.std.proofs.lemmas.Grind.{common_steps}
use Rattle.vsw_base.specs.declared.fault.NoMemory.{NoMemory}
use Rattle.vsw_commandfile.specs.declared.line.Line.{Line}
use Rattle.vsw_crew.specs.Crew.{CrewSeen, crew_now}
use Rattle.vsw_crew.specs.Shift.{Owes, TellsOwed}
use Rattle.vsw_crew.specs.StreamShares.{StreamSeen}
use Rattle.vsw_crew.specs.Streams.{IsFeeding}
use Rattle.vsw_crew.specs.Switch.{AreServed}
use Rattle.vsw_crew.specs.declared.feeding.Feeding.{Feeding}
use Rattle.vsw_crew.specs.declared.owed.Owed.{Owed}
use Rattle.vsw_host.specs.Outside.{Outside, SameInputs}
use Rattle.vsw_pcap.specs.declared.capture.Record.{Record}
use Rattle.vsw_promise.specs.Jobs.{Setting}
use Rattle.vsw_run.specs.Trace.{most_records}
use Rattle.vsw_reading.specs.Reads.{IsOpen}
use Rattle.vsw_reading.specs.declared.reading.Reading.{Reading}
use Rattle.vsw_reading.specs.declared.reading.Stop.{Stop}
use Rattle.vsw_reading.specs.declared.reading.Stop.TheVariants as stop
use Rattle.vsw_reading.proofs.Staying.{open_put}
use Rattle.vsw_replay.specs.declared.ending.TraceEnd.{TraceEnd}
use Rattle.vsw_replay.specs.declared.ending.TraceEnd.TheVariants as end
use Rattle.vsw_replay.specs.declared.streaming.Streaming.{Streaming}
use Rattle.vsw_replay.specs.declared.trace.Run.{Run}
use Rattle.vsw_replay.specs.declared.trace.Stretch.{Stretch}
use Rattle.vsw_replay.specs.Private.Begun.{AddsTo, NearTurn, TurnsTo}
use Rattle.vsw_replay.specs.Private.Going.{CanRead, IsFilled, IsNear, PutsStretch, is_run_of}
use Rattle.vsw_replay.specs.Private.Leading.{Paid}
use Rattle.vsw_replay.specs.Private.Streaming.{FeedsSo, IsFeedingBut, MayStream, StreamsTo, turned}
use Rattle.vsw_replay.specs.Runs.{RunsTrace}
use Rattle.vsw_replay.proofs.Leading.{filled_stops}
use Rattle.vsw_replay.proofs.Putting.{after_for, continues_for, fault_ends, put_by, stopped_filled}
use Rattle.vsw_replay.proofs.Turning.{rounds_run}

-- ---- packets that are handed over

-- there is room for the packet that was read last
pub few_before : (packets before : List Record) (last : Record) (first next most : ℕ) → packets ≡ before ++ last ∷ [] → first + length packets ≤ next → first + most ≡ next → length before < most
few_before packets before last first next most e room whole = omega (arith, ap length e ∙ length-append before (last ∷ []), room, whole)

-- one more was read, or none
pub fed_next : (c : CrewSeen) (lines : List Line) (first : ℕ) (old new : List Record) (f : Feeding) (out : List StreamSeen) (st : Option Stop) → AddsTo old new st → IsFeeding c lines first old f out → FeedsSo c lines first new f out st
fed_next c lines first old new f out None adds feeding = record { before = old; last = adds.0; packets_are = adds.1; feeding = feeding }
fed_next c lines first old new f out (Some st) adds feeding = subst (λ w. IsFeeding c lines first w f out) (sym adds) feeding

-- of a round of which only the first record was read none was
pub first_fed : (c : CrewSeen) (lines : List Line) (first : ℕ) (packets : List Record) (f : Feeding) (out : List StreamSeen) → length packets ≡ 1 → IsFeeding c lines first [] f out → IsFeedingBut c lines first packets f out
first_fed c lines first [] f out one feeding = absurd (omega (arith, one))
first_fed c lines first (p ∷ []) f out one feeding = record { before = []; last = p; packets_are = refl; feeding = feeding }
first_fed c lines first (p ∷ q ∷ ps) f out one feeding = absurd (omega (arith, one))

pub some_fed : (c : CrewSeen) (lines : List Line) (first : ℕ) (packets : List Record) (f : Feeding) (out : List StreamSeen) → IsFeedingBut c lines first packets f out → 0 < length packets
some_fed c lines first packets f out but = subst (λ w. 0 < length w) (sym but.packets_are) (by but.before)
  where
    by : (before : List Record) → 0 < length (before ++ but.last ∷ [])
    by [] = omega arith
    by (x ∷ xs) = omega arith

-- ---- the round is carried

is_some_run : (b : Bool) (n : ℕ) → 0 < n → (not (n == 0) || b) ≡ true
is_some_run b n some = grind (arith, common_steps)

runs_some : (commands : List Line) (count first : ℕ) (st : Stop) → 0 < count → is_run_of commands count first st ≡ true
runs_some commands count first st some = is_some_run _ count some

-- its text was put, or a front of it, or there was no memory for it
pub stream_put : (s : Setting) (start old now : Outside) (name : List ℕ) (run new : Run) (lines : List Line) (c after : CrewSeen) (o : Owed) (t : Stretch) (r : Result ⊤ TraceEnd) → s.commands ≡ lines → new.reading ≡ run.reading → SameInputs old now → 0 < length run.reading.batch → TellsOwed c lines t.first run.reading.batch o after
    → ((text : List ℕ) (short : Bool) → Owes c.harbour o text short → Paid old now run.short new.short text short r) → IsFilled s start old name run (crew_now c) t → PutsStretch s start now name new (crew_now after) t r
stream_put s start old now name run new lines c after o t (Ok u) e same inputs some tells paid f =
    let (text, short, owes, ran) = tells.tells s f.histories e f.at in
    let p = paid text short owes in
    let all = f.given ++ run.reading.batch in
    after_for s start now name new (crew_now after) t f.bytes all (f.rounds ++ ran.round ∷ []) ran.histories t.stop (stopped_filled s start old now name run new (crew_now c) t same inputs f)
    (rounds_run s t.first t.next f.given run.reading.batch f.rounds f.histories (crew_now after) short [] text t.stop f.count f.cut f.next f.long (runs_some s.commands (length run.reading.batch) t.first t.stop some) f.so ran)
    ran.at
    (put_by start old now f.rounds ran.round text u run.short new.short short f.since f.short_is f.puts ran.text p.1 ran.short_is p.0)
stream_put s start old now name run new lines c after o t (Err end.WriteFault) e same inputs some tells paid f =
    let (text, short, owes, ran) = tells.tells s f.histories e f.at in
    let p = paid text short owes in
    let all = f.given ++ run.reading.batch in
    let stopped = stopped_filled s start old now name run new (crew_now c) t same inputs f in
    let so = rounds_run s t.first t.next f.given run.reading.batch f.rounds f.histories (crew_now after) short [] text t.stop f.count f.cut f.next f.long (runs_some s.commands (length run.reading.batch) t.first t.stop some) f.so ran in
    fault_ends s start old now name f.rounds ran.round text p.0 f.since stopped.reading.later ran.text (continues_for s start now name new.reading f.bytes all t.first t.next (f.rounds ++ ran.round ∷ []) ran.histories t.stop stopped so) f.puts p.1
stream_put s start old now name run new lines c after o t (Err end.Memory) e same inputs some tells paid f =
    let (text, short, owes, ran) = tells.tells s f.histories e f.at in
    subst (λ w. RunsTrace s start w name end.Memory) (sym (paid text short owes)) (filled_stops s start old name run (crew_now c) t end.Memory refl f)
stream_put s start old now name run new lines c after o t (Err end.Done) e same inputs some tells paid f = let (text, short, owes, ran) = tells.tells s f.histories e f.at in absurd (paid text short owes)
stream_put s start old now name run new lines c after o t (Err end.ReadFault) e same inputs some tells paid f = let (text, short, owes, ran) = tells.tells s f.histories e f.at in absurd (paid text short owes)
stream_put s start old now name run new lines c after o t (Err (end.Refused bad)) e same inputs some tells paid f = let (text, short, owes, ran) = tells.tells s f.histories e f.at in absurd (paid text short owes)
stream_put s start old now name run new lines c after o t (Err end.Records) e same inputs some tells paid f = let (text, short, owes, ran) = tells.tells s f.histories e f.at in absurd (paid text short owes)

can_put : (old now : Outside) (run new : Run) (next : ℕ) (st : Stop) → new.reading ≡ run.reading → SameInputs old now → CanRead old run next st → CanRead now new next st
can_put old now run new next stop.Full same inputs can = (subst (λ q. IsOpen now q) (sym same) (open_put old now run.reading inputs can.0), can.1)
can_put old now run new next stop.End same inputs can = tt
can_put old now run new next stop.Fault same inputs can = tt
can_put old now run new next (stop.Bad bad) same inputs can = tt

-- a put changes nothing of what was read
pub near_put : (old now : Outside) (run new : Run) (t : Stretch) → new.reading ≡ run.reading → SameInputs old now → IsNear old run t → IsNear now new t
near_put old now run new t same inputs n = record { low = n.low; rises = n.rises; size = subst (λ (q : Reading). length q.batch ≤ most_records) (sym same) n.size; goes = can_put old now run new t.next t.stop same inputs n.goes }

-- ---- what the lead makes

pub streamed_on : {J G : Type 0} (a b : Streaming J G) (w v : Outside) → b.end ≡ None → ((s : Setting) (start : Outside) (name : List ℕ) → s.commands ≡ a.schedule.now → TurnsTo s start w name a.run (crew_now a.crew) (Ok a.turn) → TurnsTo s start v name b.run (crew_now b.crew) (Ok b.turn))
    → NearTurn v b.run b.turn → AreServed (crew_now b.crew) a.schedule.now → StreamsTo a w b v
streamed_on a b w v none goes near served =
    let out : Ok b.turn ≡ turned b.turn b.end = ap (turned b.turn) (sym none) in record {
      goes = λ s start name e f. subst (λ r. TurnsTo s start v name b.run (crew_now b.crew) r) out (goes s start name e f);
      near = subst (λ r. IfOk r (λ t. NearTurn v b.run t)) out near;
      served = subst (λ r. OnOk r (AreServed (crew_now b.crew) a.schedule.now)) out served;
    }

pub streamed_over : {J G : Type 0} (a b : Streaming J G) (w v : Outside) (x : TraceEnd) → b.end ≡ Some x → ((s : Setting) (start : Outside) (name : List ℕ) → s.commands ≡ a.schedule.now → TurnsTo s start w name a.run (crew_now a.crew) (Ok a.turn) → RunsTrace s start v name x) → StreamsTo a w b v
streamed_over a b w v x is goes =
    let out : Err x ≡ turned b.turn b.end = ap (turned b.turn) (sym is) in record {
      goes = λ s start name e f. subst (λ r. TurnsTo s start v name b.run (crew_now b.crew) r) out (goes s start name e f);
      near = subst (λ r. IfOk r (λ t. NearTurn v b.run t)) out tt;
      served = subst (λ r. OnOk r (AreServed (crew_now b.crew) a.schedule.now)) out tt;
    }

-- the threads were started, or nothing was done
pub hands_streamed : {H J G : Type 0} (outside : H → Outside) (a b : Streaming J G) (w v : H) (r : Result ⊤ NoMemory) → MayStream a (outside w) → OnOk r (StreamsTo a (outside w) b (outside v)) → OnErr r ((b ≡ a) × (v ≡ w)) → StreamsTo a (outside w) b (outside v)
hands_streamed outside a b w v (Ok u) may led same = led
hands_streamed outside a b w v (Err e) may led same =
    let here = streamed_on a a (outside w) (outside w) may.end (λ s start name e f. f) may.near may.served in
    subst (λ y. StreamsTo a (outside w) b (outside y)) (sym same.1) (subst (λ y. StreamsTo a (outside w) y (outside w)) (sym same.0) here)
