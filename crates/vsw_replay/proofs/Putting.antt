-- A round was put, or the run ended in it.
use Rattle.std.proofs.Common.{◌≡◌, ◌<◌, ◌≤◌, inl, inr, ◌+◌, ◌||◌, ℕ, Bool, true, false, Some, None, Result, Ok, Err, List, [], ◌∷◌, ◌++◌, length, take, refl, sym, ◌∙◌, ap, subst, arith, length-append}
use Rattle.std.specs.Bool.{⊤}
use Rattle.vsw_port.specs.declared.event.Event.{Event}
use Rattle.vsw_host.specs.Outside.{Outside, Grows, SameInputs, DoesPut}
use Rattle.vsw_host.specs.Source.{IsReading}
use Rattle.vsw_host.specs.declared.host.Failed.{Failed}
use Rattle.vsw_pcap.specs.Capture.{header_of, IsCapture}
use Rattle.vsw_pcap.specs.declared.capture.Record.{Record}
use Rattle.vsw_pcap.specs.declared.fault.BadTrace.{BadTrace}
use Rattle.vsw_pcap.specs.declared.fault.BadTrace.TheVariants.{NotPcap, Version, LinkType, Cut, Huge}
use Rattle.vsw_promise.specs.Jobs.{Setting, cuts_within}
use Rattle.vsw_run.specs.Trace.{most_records, Trace, All, Fault, Stopped, TellsWithin, HasFront, Tells}
use Rattle.vsw_run.specs.declared.ending.Ending.TheVariants as ending
use Rattle.vsw_report.specs.Print.{round_text, report_text}
use Rattle.vsw_report.specs.Short.{are_short, is_short_round}
use Rattle.vsw_report.specs.declared.round.Round.{Round}
use Rattle.vsw_report.specs.Whole.{whole_text}
use Rattle.vsw_promise.specs.Schedule.{next_at}
use Rattle.vsw_crew.specs.Switch.{SwitchNow, IsAt}
use Rattle.vsw_replay.specs.declared.ending.TraceEnd.{TraceEnd}
use Rattle.vsw_replay.specs.declared.ending.TraceEnd.TheVariants as end
use Rattle.vsw_reading.specs.declared.reading.Reading.{Reading}
use Rattle.vsw_reading.specs.declared.reading.Stop.{Stop}
use Rattle.vsw_reading.specs.declared.reading.Stop.TheVariants as stop
use Rattle.vsw_replay.specs.declared.trace.Run.{Run}
use Rattle.vsw_replay.specs.declared.trace.Stretch.{Stretch}
use Rattle.vsw_replay.specs.Private.Cut.{IsCut, IsNextCut, cuts_until, AreBehind}
use Rattle.vsw_replay.specs.Private.Going.{Since, ShowsStop, IsAsLong, IsFilled, IsPast, IsTurn, AfterPut, PutsStretch, PutsRound, is_run_of}
use Rattle.vsw_replay.specs.Private.Pauses.{Pauses}
use Rattle.vsw_reading.specs.Passed.{IsPassed}
use Rattle.vsw_run.specs.Steps.{Reads}
use Rattle.vsw_replay.specs.Runs.{RunsTrace}
use Rattle.vsw_replay.specs.Private.SoFar.{AreSoFar}
use Rattle.vsw_replay.proofs.Cuts.{next_some}
use Rattle.vsw_replay.proofs.Completing.{Follows, follows_none, tells_within, front_follows, past_follows}
use Rattle.vsw_reading.proofs.Passing.{passed_first}
use Rattle.vsw_replay.proofs.Growing.{grows_then, grows_is, front_then}
use Rattle.vsw_replay.proofs.Sources.{since_put, shows_put, runs_so, ends_so, breaks_off, breaks_after}
use Rattle.vsw_reading.proofs.Staying.{whole_put, reading_put}
use Rattle.vsw_run.proofs.ReadTo.{read_to, reads_fault, reads_stopped, reads_whole}
use Rattle.vsw_replay.proofs.Turning.{RoundsFor, rounds_run, rounds_unrun, rounds_past, report_push, short_push}

-- ---- a text follows, whatever stopped the reading

-- a trace of which this was read may have a text that begins so
pub record Continues (s : Setting) (start now : Outside) (name front : List ℕ) : Type 0 where
  pub trace : Trace
  pub reads : Reads start now name trace
  pub follows : Follows s trace front

-- the records of a trace, and why the reading stopped after them
pub record IsStopped (s : Setting) (start now : Outside) (name : List ℕ) (r : Reading) (bytes : List ℕ) (all : List Record) (first next : ℕ) (st : Stop) : Type 0 where
  pub reading : IsReading start now name r.source.file bytes
  pub passed : IsPassed bytes all
  pub after : IsNextCut s.commands first next
  pub long : IsAsLong st next (length all)
  pub shows : ShowsStop start now name r bytes all st

header_bad : (bytes : List ℕ) (all : List Record) (bad : BadTrace) → IsPassed bytes all → header_of bytes ≡ Err bad → ⊥
header_bad bytes all bad p e = let h = p.header in cc (e, h)

-- a refused trace tells the rounds before the fault
bad_tells : (s : Setting) (start now : Outside) (name : List ℕ) (file : ℕ) (bytes : List ℕ) (all : List Record) (text : List ℕ) (bad : BadTrace) → IsReading start now name file bytes → IsPassed bytes all → ((at : ℕ) → bad ≡ Cut at → Reads start now name (read_to All bytes)) → IsCapture bytes all (Some bad) → length all < most_records → TellsWithin s all text
    → (t : Trace) × Reads start now name t × Tells s t (ending.Trace bad) text
bad_tells s start now name file bytes all text NotPcap r p whole c few w = absurd (header_bad bytes all NotPcap p c.0)
bad_tells s start now name file bytes all text Version r p whole c few w = absurd (header_bad bytes all Version p c.0)
bad_tells s start now name file bytes all text LinkType r p whole c few w = absurd (header_bad bytes all LinkType p c.0)
bad_tells s start now name file bytes all text (Cut at) r p whole c few w = (read_to All bytes, whole at refl, (refl, record { records = all; refused = c; few = few; tells = w }))
bad_tells s start now name file bytes all text (Huge at) r p whole c few w = (read_to Stopped bytes, reads_stopped start now name file bytes r, record { records = all; refused = c; few = few; tells = w })

pauses_front : (s : Setting) (t : Trace) (all : List Record) (text : List ℕ) → Pauses t.bytes all → length all ≤ most_records → TellsWithin s all text → HasFront s t text
pauses_front s t all text p few w = record { records = all; at = p.at; stops = p.stops; few = few; last = p.last; tells = w }

pub continues_for : (s : Setting) (start now : Outside) (name : List ℕ) (r : Reading) (bytes : List ℕ) (all : List Record) (first next : ℕ) (rounds : List Round) (hs : List (List Event)) (st : Stop) → IsStopped s start now name r bytes all first next st → RoundsFor s first all rounds hs st → Continues s start now name (report_text rounds)
continues_for s start now name r bytes all first next rounds hs stop.Full i so = record {
  trace = read_to Stopped bytes;
  reads = reads_stopped start now name r.source.file bytes i.reading;
  follows = front_follows s bytes all rounds hs i.passed (omega (arith, i.long.0, i.long.1)) (subst (λ n. IsCut s.commands n) (sym i.long.0) i.after.is_cut) so;
}
continues_for s start now name r bytes all first next rounds hs stop.End i so = record {
  trace = read_to All bytes;
  reads = reads_whole start now name bytes i.shows.0;
  follows = past_follows s bytes all first rounds hs i.shows.1 i.shows.2 (λ n lt c. omega (arith, i.long, i.after.least n lt c)) so;
}
continues_for s start now name r bytes all first next rounds hs stop.Fault i so = record {
  trace = read_to Stopped bytes;
  reads = reads_stopped start now name r.source.file bytes i.reading;
  follows = follows_none s (read_to Stopped bytes) (report_text rounds) (inr (refl, inr (pauses_front s (read_to Stopped bytes) all (report_text rounds) i.shows.1 i.shows.2 (tells_within s all rounds hs so))));
}
continues_for s start now name r bytes all first next rounds hs (stop.Bad bad) i so =
    let t = bad_tells s start now name r.source.file bytes all (report_text rounds) bad i.reading i.passed (λ at e. reads_whole start now name bytes (i.shows.0 at e)) i.shows.1 i.shows.2 (tells_within s all rounds hs so) in record {
      trace = t.0;
      reads = t.1;
      follows = follows_none s t.0 (report_text rounds) (inl (ending.Trace bad, t.2));
    }

-- ---- after the round

-- what was put, and by which rounds
pub record IsPutBy (start now : Outside) (rounds : List Round) (short : Bool) : Type 0 where
  pub since : Since start now
  pub short_is : are_short rounds ≡ short
  pub puts : Grows start.put now.put (report_text rounds)

pub after_for : (s : Setting) (start now : Outside) (name : List ℕ) (run : Run) (switch : SwitchNow) (t : Stretch) (bytes : List ℕ) (all : List Record) (rounds : List Round) (hs : List (List Event)) (st : Stop) → IsStopped s start now name run.reading bytes all t.first t.next st → RoundsFor s t.first all rounds hs st → IsAt s hs switch → IsPutBy start now rounds run.short
    → AfterPut s start now name run switch t st
after_for s start now name run switch t bytes all rounds hs stop.Full i so at put = record {
  bytes = bytes;
  given = all;
  rounds = rounds;
  histories = hs;
  since = put.since;
  read = i.shows;
  some = omega (arith, i.long.0, i.after.above);
  count = i.long.0;
  few = i.long.1;
  cut = i.after.is_cut;
  so = subst (λ n. AreSoFar s all (cuts_within s.commands n) rounds hs) i.long.0 so;
  at = at;
  short_is = put.short_is;
  puts = put.puts;
}
after_for s start now name run switch t bytes all rounds hs stop.End i so at put = record {
  bytes = bytes;
  records = all;
  rounds = rounds;
  histories = hs;
  since = put.since;
  later = i.reading.later;
  whole = i.shows.0;
  capture = i.shows.1;
  few = i.shows.2;
  behind = λ n lt c. omega (arith, i.long, i.after.least n lt c);
  so = so;
  at = at;
  short_is = put.short_is;
  puts = put.puts;
}
after_for s start now name run switch t bytes all rounds hs stop.Fault i so at put =
    runs_so s start now name end.ReadFault put.since i.reading.later
    (inr (i.shows.0, ends_so s start now name ending.ReadFault (read_to Fault bytes) (report_text rounds) (reads_fault start now name run.reading.source.file bytes i.shows.0 i.reading) (refl, inr (pauses_front s (read_to Fault bytes) all (report_text rounds) i.shows.1 i.shows.2 (tells_within s all rounds hs so))) put.puts))
after_for s start now name run switch t bytes all rounds hs (stop.Bad bad) i so at put =
    let b = bad_tells s start now name run.reading.source.file bytes all (report_text rounds) bad i.reading i.passed (λ at e. reads_whole start now name bytes (i.shows.0 at e)) i.shows.1 i.shows.2 (tells_within s all rounds hs so) in
    runs_so s start now name (end.Refused bad) put.since i.reading.later (inr (ends_so s start now name (ending.Trace bad) b.0 (report_text rounds) b.1 b.2 put.puts))

-- ---- the records of a filled stretch

pub stopped_filled : (s : Setting) (start old now : Outside) (name : List ℕ) (run new : Run) (switch : SwitchNow) (t : Stretch) → new.reading ≡ run.reading → SameInputs old now → (f : IsFilled s start old name run switch t) → IsStopped s start now name new.reading (IsFilled.bytes f) (IsFilled.given f ++ run.reading.batch) t.first t.next t.stop
stopped_filled s start old now name run new switch t same inputs f =
    let all = f.given ++ run.reading.batch in
    subst (λ r. IsStopped s start now name r f.bytes all t.first t.next t.stop) (sym same) (record {
      reading = reading_put start old now name run.reading.source.file f.bytes inputs f.reading;
      passed = f.passed;
      after = f.next;
      long = f.long;
      shows = shows_put start old now name run.reading f.bytes all t.stop inputs f.shows;
    })

pub shows_few : (start now : Outside) (name : List ℕ) (r : Reading) (bytes : List ℕ) (all : List Record) (next : ℕ) (st : Stop) → IsAsLong st next (length all) → ShowsStop start now name r bytes all st → length all ≤ most_records
shows_few start now name r bytes all next stop.Full long h = omega (arith, long.0, long.1)
shows_few start now name r bytes all next stop.End long h = h.2
shows_few start now name r bytes all next stop.Fault long h = h.2
shows_few start now name r bytes all next (stop.Bad bad) long h = omega (arith, h.2)

-- before the round was run
continues_before : (s : Setting) (start now : Outside) (name : List ℕ) (run : Run) (switch : SwitchNow) (t : Stretch) → (f : IsFilled s start now name run switch t) → Continues s start now name (report_text (IsFilled.rounds f))
continues_before s start now name run switch t f =
    let few = shows_few start now name run.reading f.bytes (f.given ++ run.reading.batch) t.next t.stop f.long f.shows in record {
      trace = read_to Stopped f.bytes;
      reads = reads_stopped start now name run.reading.source.file f.bytes f.reading;
      follows = front_follows s f.bytes f.given f.rounds f.histories (passed_first f.bytes f.given run.reading.batch f.passed) (omega (arith, few, length-append f.given run.reading.batch)) (subst (λ n. IsCut s.commands n) (sym f.count) f.cut)
          (subst (λ n. AreSoFar s f.given (cuts_within s.commands n) f.rounds f.histories) (sym f.count) f.so);
    }

-- want of memory ends the run
memory_ends : (s : Setting) (start now : Outside) (name : List ℕ) (rounds : List Round) → Since start now → start.input_faults ≤ now.input_faults → Continues s start now name (report_text rounds) → Grows start.put now.put (report_text rounds) → RunsTrace s start now name end.Memory
memory_ends s start now name rounds since later c g = runs_so s start now name end.Memory since later (inr (inr (breaks_after s start now name c.trace (report_text rounds) c.reads c.follows g)))

-- so does a put that failed within a round's text
pub fault_ends : (s : Setting) (start old now : Outside) (name : List ℕ) (rounds : List Round) (r : Round) (text : List ℕ) (e : Failed) → Since start old → start.input_faults ≤ now.input_faults → text ≡ round_text r → Continues s start now name (report_text (rounds ++ r ∷ [])) → Grows start.put old.put (report_text rounds) → DoesPut old now text (Err e)
    → RunsTrace s start now name end.WriteFault
fault_ends s start old now name rounds r text e since later is c g d =
    let whole : report_text rounds ++ text ≡ report_text (rounds ++ r ∷ []) = ap (λ t. report_text rounds ++ t) is ∙ sym (report_push rounds r) in
    let n : ℕ = length (report_text rounds) + d.told.0 in
    let put : Grows start.put now.put (take n (report_text (rounds ++ r ∷ []))) = grows_is start.put now.put (take n (report_text rounds ++ text)) (take n (report_text (rounds ++ r ∷ []))) (ap (take n) whole) (front_then start.put old.put now.put (report_text rounds) text d.told.0 g d.told.1) in
    runs_so s start now name end.WriteFault (since_put start old now text (Err e) since d) later (inr (omega (arith, since.puts_later, d.cause.failed), breaks_off s start now name c.trace (report_text (rounds ++ r ∷ [])) n c.reads c.follows put))

pub put_by : (start old now : Outside) (rounds : List Round) (r : Round) (text : List ℕ) (u : ⊤) (was short is : Bool) → Since start old → are_short rounds ≡ was → Grows start.put old.put (report_text rounds) → text ≡ round_text r → short ≡ (was || is) → is ≡ is_short_round r → DoesPut old now text (Ok u) → IsPutBy start now (rounds ++ r ∷ []) short
put_by start old now rounds r text u was short is since e g t f h d = record {
  since = since_put start old now text (Ok u) since d;
  short_is = short_push rounds r was short is e h f;
  puts = grows_is start.put now.put (report_text rounds ++ text) (report_text (rounds ++ r ∷ [])) (ap (λ t. report_text rounds ++ t) t ∙ sym (report_push rounds r)) (grows_then start.put old.put now.put (report_text rounds) text g d.told);
}

-- ---- a stretch

-- there was no round to run
pub stretch_unrun : (s : Setting) (start now : Outside) (name : List ℕ) (run : Run) (switch : SwitchNow) (t : Stretch) → is_run_of s.commands (length run.reading.batch) t.first t.stop ≡ false → IsFilled s start now name run switch t → AfterPut s start now name run switch t t.stop
stretch_unrun s start now name run switch t runs f =
    after_for s start now name run switch t f.bytes (f.given ++ run.reading.batch) f.rounds f.histories t.stop
    (record { reading = f.reading; passed = f.passed; after = f.next; long = f.long; shows = f.shows })
    (rounds_unrun s t.first t.next f.given run.reading.batch f.rounds f.histories t.stop f.count f.next f.long runs f.so)
    f.at
    (record { since = f.since; short_is = f.short_is; puts = f.puts })

-- the round was run, and put or not
pub stretch_put : (s : Setting) (start old now : Outside) (name : List ℕ) (run new : Run) (switch after : SwitchNow) (t : Stretch) (r : Result ⊤ TraceEnd) → is_run_of s.commands (length run.reading.batch) t.first t.stop ≡ true → new.reading ≡ run.reading → SameInputs old now → ((hs : List (List Event)) → IsAt s hs switch → PutsRound s hs t.first run new after old now r)
    → IsFilled s start old name run switch t → PutsStretch s start now name new after t r
stretch_put s start old now name run new switch after t (Ok u) runs same inputs put f =
    let p = put f.histories f.at in
    let ran = p.0.ran in
    let rounds = f.rounds ++ ran.round ∷ [] in
    after_for s start now name new after t f.bytes (f.given ++ run.reading.batch) rounds ran.histories t.stop (stopped_filled s start old now name run new switch t same inputs f)
    (rounds_run s t.first t.next f.given run.reading.batch f.rounds f.histories after p.0.short [] (whole_text new.text) t.stop f.count f.cut f.next f.long runs f.so ran)
    ran.at
    (put_by start old now f.rounds ran.round (whole_text new.text) u run.short new.short p.0.short f.since f.short_is f.puts ran.text p.0.short_is ran.short_is p.1)
stretch_put s start old now name run new switch after t (Err end.WriteFault) runs same inputs put f =
    let p = put f.histories f.at in
    let ran = p.0.ran in
    let all = f.given ++ run.reading.batch in
    let stopped = stopped_filled s start old now name run new switch t same inputs f in
    let so = rounds_run s t.first t.next f.given run.reading.batch f.rounds f.histories after p.0.short [] (whole_text new.text) t.stop f.count f.cut f.next f.long runs f.so ran in
    fault_ends s start old now name f.rounds ran.round (whole_text new.text) p.1.0 f.since stopped.reading.later ran.text (continues_for s start now name new.reading f.bytes all t.first t.next (f.rounds ++ ran.round ∷ []) ran.histories t.stop stopped so) f.puts p.1.1
stretch_put s start old now name run new switch after t (Err end.Memory) runs same inputs put f =
    let here = memory_ends s start old name f.rounds f.since f.reading.later (continues_before s start old name run switch t f) f.puts in
    subst (λ o. RunsTrace s start o name end.Memory) (sym (put f.histories f.at)) here
stretch_put s start old now name run new switch after t (Err end.Done) runs same inputs put f = absurd (put f.histories f.at)
stretch_put s start old now name run new switch after t (Err end.ReadFault) runs same inputs put f = absurd (put f.histories f.at)
stretch_put s start old now name run new switch after t (Err (end.Refused bad)) runs same inputs put f = absurd (put f.histories f.at)
stretch_put s start old now name run new switch after t (Err end.Records) runs same inputs put f = absurd (put f.histories f.at)

-- ---- a round behind the trace

continues_past : (s : Setting) (start now : Outside) (name bytes : List ℕ) (records : List Record) (first : ℕ) (rounds : List Round) (hs : List (List Event)) → Reads start now name (read_to All bytes) → IsCapture bytes records None → length records ≤ most_records → AreBehind s.commands first (length records) → AreSoFar s records (cuts_until s.commands (length records) (first + 1)) rounds hs
    → Continues s start now name (report_text rounds)
continues_past s start now name bytes records first rounds hs reads c few behind so = record { trace = read_to All bytes; reads = reads; follows = past_follows s bytes records first rounds hs c few behind so }

behind_next : (s : Setting) (first next total : ℕ) → next_at (first + 1) s.commands ≡ Some next → AreBehind s.commands first total → AreBehind s.commands next total
behind_next s first next total e behind = let is = next_some s.commands (first + 1) next e in λ n lt c. behind n (omega (arith, lt, is.from)) c

-- a further round was run, of which this was put
pub next_by : (s : Setting) (start old now : Outside) (name : List ℕ) (run new : Run) (switch after : SwitchNow) (first next : ℕ) → run.reading.batch ≡ [] → next_at (first + 1) s.commands ≡ Some next → SameInputs old now → (f : IsPast s start old name run.short switch first) → (p : IsTurn s f.histories next run new after)
    → IsPutBy start now (f.rounds ++ p.ran.round ∷ []) new.short → IsPast s start now name new.short after next
next_by s start old now name run new switch after first next none e inputs f p by =
    let ran = p.ran in record {
      bytes = f.bytes;
      records = f.records;
      rounds = f.rounds ++ ran.round ∷ [];
      histories = ran.histories;
      since = by.since;
      later = omega (arith, f.later, inputs.input_faults);
      whole = whole_put start old now name f.bytes inputs f.whole;
      capture = f.capture;
      few = f.few;
      behind = behind_next s first next (length f.records) e f.behind;
      so = rounds_past s first next f.records run.reading.batch f.rounds f.histories after p.short [] (whole_text new.text) none e f.behind f.so ran;
      at = ran.at;
      short_is = by.short_is;
      puts = by.puts;
    }

-- and all of its text was
pub next_put : (s : Setting) (start old now : Outside) (name : List ℕ) (run new : Run) (switch after : SwitchNow) (first next : ℕ) (u : ⊤) → run.reading.batch ≡ [] → next_at (first + 1) s.commands ≡ Some next → SameInputs old now → ((hs : List (List Event)) → IsAt s hs switch → PutsRound s hs next run new after old now (Ok u))
    → IsPast s start old name run.short switch first → IsPast s start now name new.short after next
next_put s start old now name run new switch after first next u none e inputs put f =
    let p = put f.histories f.at in
    let ran = p.0.ran in
    next_by s start old now name run new switch after first next none e inputs f p.0 (put_by start old now f.rounds ran.round (whole_text new.text) u run.short new.short p.0.short f.since f.short_is f.puts ran.text p.0.short_is ran.short_is p.1)

-- or not
pub next_unput : (s : Setting) (start old now : Outside) (name : List ℕ) (run new : Run) (switch after : SwitchNow) (first next : ℕ) (e : TraceEnd) → run.reading.batch ≡ [] → next_at (first + 1) s.commands ≡ Some next → SameInputs old now → ((hs : List (List Event)) → IsAt s hs switch → PutsRound s hs next run new after old now (Err e))
    → IsPast s start old name run.short switch first → RunsTrace s start now name e
next_unput s start old now name run new switch after first next end.WriteFault none e inputs put f =
    let p = put f.histories f.at in
    let ran = p.0.ran in
    let rounds = f.rounds ++ ran.round ∷ [] in
    let so = rounds_past s first next f.records run.reading.batch f.rounds f.histories after p.0.short [] (whole_text new.text) none e f.behind f.so ran in
    fault_ends s start old now name f.rounds ran.round (whole_text new.text) p.1.0 f.since (omega (arith, f.later, inputs.input_faults)) ran.text
    (continues_past s start now name f.bytes f.records next rounds ran.histories (reads_whole start now name f.bytes (whole_put start old now name f.bytes inputs f.whole)) f.capture f.few (behind_next s first next (length f.records) e f.behind) so)
    f.puts
    p.1.1
next_unput s start old now name run new switch after first next end.Memory none e inputs put f =
    let here = memory_ends s start old name f.rounds f.since f.later (continues_past s start old name f.bytes f.records first f.rounds f.histories (reads_whole start old name f.bytes f.whole) f.capture f.few f.behind f.so) f.puts in
    subst (λ o. RunsTrace s start o name end.Memory) (sym (put f.histories f.at)) here
next_unput s start old now name run new switch after first next end.Done none e inputs put f = absurd (put f.histories f.at)
next_unput s start old now name run new switch after first next end.ReadFault none e inputs put f = absurd (put f.histories f.at)
next_unput s start old now name run new switch after first next (end.Refused bad) none e inputs put f = absurd (put f.histories f.at)
next_unput s start old now name run new switch after first next end.Records none e inputs put f = absurd (put f.histories f.at)
