-- The head of a report, and traces of which no header was accepted.
use Rattle.std.proofs.Common.{◌≡◌, ◌<◌, ◌≤◌, ◌⊎◌, inl, inr, ℕ, Bool, true, false, nat_lt, if◌then◌else◌, Option, Some, None, Ok, Err, List, [], ◌++◌, length, map, take, min, refl, sym, ◌∙◌, ap, subst, arith, append-nil}
use Rattle.std.specs.Bool.{⊤}
use Rattle.std.proofs.lemmas.Grind.{common_steps}
use Rattle.vsw_base.specs.declared.fault.NoMemory.{NoMemory}
use Rattle.vsw_host.specs.Outside.{Outside, Inputs, Grows, Rose, SameInputs, SameOutputs, DoesPut}
use Rattle.vsw_host.specs.Source.{IsReading, OpensSource}
use Rattle.vsw_host.specs.Told.{TellsSince}
use Rattle.vsw_host.specs.declared.source.Unopened.{Unopened}
use Rattle.vsw_host.specs.declared.source.Unopened.TheVariants as unopened
use Rattle.vsw_host.specs.declared.host.Failed.{Failed}
use Rattle.vsw_pcap.specs.Capture.{header_of, IsCapture}
use Rattle.vsw_pcap.specs.Decides.{Decides}
use Rattle.vsw_pcap.specs.declared.capture.Record.{Record}
use Rattle.vsw_pcap.specs.declared.fault.BadTrace.{BadTrace}
use Rattle.vsw_pcap.specs.declared.fault.BadTrace.TheVariants.{NotPcap, Version, LinkType, Cut, Huge}
use Rattle.vsw_promise.specs.Ports.{ports_of}
use Rattle.vsw_promise.specs.Jobs.{Setting, cuts_within}
use Rattle.vsw_run.specs.Trace.{most_records, Trace, All, Fault, Stopped}
use Rattle.vsw_run.specs.declared.ending.Ending.TheVariants as ending
use Rattle.vsw_report.specs.Print.{head_line, report_text}
use Rattle.vsw_crew.specs.Switch.{SwitchNow}
use Rattle.vsw_replay.specs.declared.ending.TraceEnd.{TraceEnd}
use Rattle.vsw_replay.specs.declared.ending.TraceEnd.TheVariants as end
use Rattle.vsw_reading.specs.declared.reading.Reading.{Reading}
use Rattle.vsw_reading.specs.declared.reading.Stop.{Stop}
use Rattle.vsw_reading.specs.declared.reading.Stop.TheVariants as stop
use Rattle.vsw_replay.specs.declared.trace.Run.{Run}
use Rattle.vsw_replay.specs.declared.trace.Stretch.{Stretch}
use Rattle.vsw_replay.specs.Private.Cut.{IsNextCut}
use Rattle.vsw_replay.specs.Private.Going.{Since, IsFilled, IsOpened, IsFirst, unheaded_of}
use Rattle.vsw_reading.specs.Passed.{IsPassed}
use Rattle.vsw_reading.specs.Reads.{IsRead, Holds, Says}
use Rattle.vsw_run.specs.Steps.{Reads}
use Rattle.vsw_replay.specs.Runs.{RunsTrace}
use Rattle.vsw_replay.specs.Private.SoFar.{AreSoFar}
use Rattle.vsw_replay.proofs.Carried.{none_so_far}
use Rattle.vsw_replay.proofs.Completing.{header_follows, some_tells}
use Rattle.vsw_replay.proofs.Cuts.{within_none}
use Rattle.vsw_replay.proofs.Filling.{shows_of, reading_on}
use Rattle.vsw_reading.proofs.Open.{FillsSo}
use Rattle.vsw_reading.proofs.Passing.{passed_read, waits_passed}
use Rattle.vsw_replay.proofs.Growing.{grows_none, grows_then, grows_is}
use Rattle.vsw_replay.proofs.Sources.{since_put, since_read, grows_read, shows_put, runs_so, ends_so, breaks_off}
use Rattle.vsw_run.proofs.ReadTo.{read_to, reads_fault, reads_stopped, reads_whole}
use Rattle.vsw_reading.proofs.Staying.{reading_put}

-- ---- a header was accepted

less_seen : (n : ℕ) → (if nat_lt n 24 then Some end.ReadFault else None) ≡ None → 24 ≤ n
less_seen n e = by (nat_lt n 24) refl e
  where
    by : (b : Bool) → nat_lt n 24 ≡ b → (if b then Some end.ReadFault else None) ≡ None → 24 ≤ n
    by true t e = absurd (cc e)
    by false t e = grind (arith, common_steps)

bad_passed : (bytes : List ℕ) (all : List Record) (bad : BadTrace) (seen : ℕ) → IsCapture bytes all (Some bad) → unheaded_of (stop.Bad bad) seen ≡ None → IsPassed bytes all
bad_passed bytes all NotPcap seen c e = absurd (cc e)
bad_passed bytes all Version seen c e = absurd (cc e)
bad_passed bytes all LinkType seen c e = absurd (cc e)
bad_passed bytes all (Cut at) seen c e = record { form = c.0.form; rest = c.0.rest; header = c.0.header; splits = c.0.splits }
bad_passed bytes all (Huge at) seen c e = record { form = c.form; rest = c.rest; header = c.header; splits = c.splits }

-- the first round
pub headed : (start now : Outside) (name : List ℕ) (r : Reading) (bytes : List ℕ) (most : ℕ) (st : Stop) → 0 < most → IsRead start now name r bytes r.batch → Says start now name r bytes r.batch most st → unheaded_of st r.seen ≡ None → IsPassed bytes r.batch
headed start now name r bytes most stop.Full some h says e = passed_read r.reader bytes r.batch (omega (arith, says, some)) h.stands
headed start now name r bytes most stop.End some h says e = record { form = says.2.0; rest = []; header = says.2.1; splits = says.2.2 }
headed start now name r bytes most stop.Fault some h says e = waits_passed bytes r.batch (omega (arith, less_seen r.seen e, h.seen)) says.2
headed start now name r bytes most (stop.Bad bad) some h says e = bad_passed bytes r.batch bad r.seen says.1 e

-- the report begins so
pub head_begun : (s : Setting) (start old now : Outside) (name : List ℕ) (run : Run) (switch : SwitchNow) (t : Stretch) → unheaded_of t.stop run.reading.seen ≡ None → SameInputs old now → Since start now → Grows start.put now.put head_line → IsFirst s start old name run switch t t.next → IsFilled s start now name run switch t
head_begun s start old now name run switch t e inputs since put f =
    let p = f.stops in
    let r = run.reading in
    let passed = headed start old name r p.bytes t.next t.stop f.next.above p.read p.says e in
    let shows = shows_of start old name r p.bytes r.batch t.next t.next t.stop passed p.read (omega arith) (f.next.least most_records (omega arith) (inr (1024, refl))) p.says in record {
      bytes = p.bytes;
      given = [];
      rounds = [];
      histories = map (λ p. []) (ports_of s.policy);
      since = since;
      reading = reading_put start old now name r.source.file p.bytes inputs p.read.reading;
      passed = passed;
      count = sym f.first;
      cut = inr (0, f.first);
      next = subst (λ n. IsNextCut s.commands n t.next) (sym f.first) f.next;
      long = shows.1;
      shows = shows_put start old now name r p.bytes r.batch t.stop inputs shows.0;
      so = subst (λ c. AreSoFar s [] c [] (map (λ p. []) (ports_of s.policy))) (sym (ap (cuts_within s.commands) f.first ∙ within_none s.commands)) (none_so_far s f.at.some f.at.few);
      at = f.at;
      short_is = sym f.short_is;
      puts = grows_is start.put now.put head_line (report_text []) (sym (append-nil head_line)) put;
    }

-- the head line was put
pub head_put : (s : Setting) (start old now : Outside) (name : List ℕ) (run : Run) (switch : SwitchNow) (t : Stretch) (u : ⊤) → unheaded_of t.stop run.reading.seen ≡ None → DoesPut old now head_line (Ok u) → IsFirst s start old name run switch t t.next → IsFilled s start now name run switch t
head_put s start old now name run switch t u e d f = head_begun s start old now name run switch t e d.inputs (since_put start old now head_line (Ok u) f.since d) (grows_then start.put old.put now.put [] head_line f.puts d.told) f

-- or a front of it
pub head_unput : (s : Setting) (start old now : Outside) (name : List ℕ) (run : Run) (switch : SwitchNow) (t : Stretch) (most : ℕ) (x : Failed) → 0 < most → unheaded_of t.stop run.reading.seen ≡ None → DoesPut old now head_line (Err x) → IsFirst s start old name run switch t most → RunsTrace s start now name end.WriteFault
head_unput s start old now name run switch t most x some e d f =
    let p = f.stops in
    let r = run.reading in
    let passed = headed start old name r p.bytes most t.stop some p.read p.says e in
    let reading = reading_put start old now name r.source.file p.bytes d.inputs p.read.reading in
    runs_so s start now name end.WriteFault (since_put start old now head_line (Err x) f.since d) reading.later
    (inr (omega (arith, f.since.puts_later, d.cause.failed), breaks_off s start now name (read_to Stopped p.bytes) head_line d.told.0 (reads_stopped start now name r.source.file p.bytes reading) (header_follows s p.bytes passed.form f.at.some f.at.few passed.header) (grows_then start.put old.put now.put [] (take d.told.0 head_line) f.puts d.told.1)))

-- ---- no header was accepted

fault_ends : (s : Setting) (start now : Outside) (name : List ℕ) (file : ℕ) (bytes : List ℕ) (seen : ℕ) (e : TraceEnd) → Since start now → IsReading start now name file bytes → Grows start.put now.put [] → Rose start.input_faults now.input_faults → seen ≡ min 24 (length bytes) → (b : Bool) → nat_lt seen 24 ≡ b → (if b then Some end.ReadFault else None) ≡ Some e → RunsTrace s start now name e
fault_ends s start now name file bytes seen e since r g rose is true t h =
    let few : length bytes < 24 = grind (arith, common_steps) in
    let same : end.ReadFault ≡ e = cc h in
    subst (λ e. RunsTrace s start now name e) same (runs_so s start now name end.ReadFault since r.later (inr (rose, ends_so s start now name ending.ReadFault (read_to Fault bytes) [] (reads_fault start now name file bytes rose r) (refl, inl (record { few = few; nothing = refl })) g)))
fault_ends s start now name file bytes seen e since r g rose is false t h = absurd (cc h)

-- a trace with a bad header is refused by its 24 bytes, or by its end
shown_bad : (start now : Outside) (name : List ℕ) (r : Reading) (bytes : List ℕ) (all : List Record) (bad : BadTrace) → IsRead start now name r bytes all → (r.reader.finished ≡ true) ⊎ (24 ≤ length bytes) → (t : Trace) × Reads start now name t × (t.bytes ≡ bytes) × ((t.reach ≡ All) ⊎ (24 ≤ length t.bytes))
shown_bad start now name r bytes all bad h (inl f) = (read_to All bytes, reads_whole start now name bytes (h.end f), refl, inl refl)
shown_bad start now name r bytes all bad h (inr long) = (read_to Stopped bytes, reads_stopped start now name r.source.file bytes h.reading, refl, inr long)

bad_ends : (s : Setting) (start now : Outside) (name : List ℕ) (r : Reading) (bytes : List ℕ) (all : List Record) (bad : BadTrace) (e : TraceEnd) → Since start now → IsRead start now name r bytes all → Grows start.put now.put [] → IsCapture bytes all (Some bad) → Decides bad r.reader.finished (length bytes) → unheaded_of (stop.Bad bad) r.seen ≡ Some e → RunsTrace s start now name e
bad_ends s start now name r bytes all NotPcap e since h g c d i =
    let t = shown_bad start now name r bytes all NotPcap h d in
    let same : end.Refused NotPcap ≡ e = cc i in
    subst (λ e. RunsTrace s start now name e) same (runs_so s start now name (end.Refused NotPcap) since h.reading.later (inr (ends_so s start now name (ending.Trace NotPcap) t.0 [] t.1 (record { refused = (ap header_of t.2 ∙ c.0, refl); shown = t.3; nothing = refl }) g)))
bad_ends s start now name r bytes all Version e since h g c d i =
    let t = shown_bad start now name r bytes all Version h (inr d) in
    let same : end.Refused Version ≡ e = cc i in
    subst (λ e. RunsTrace s start now name e) same (runs_so s start now name (end.Refused Version) since h.reading.later (inr (ends_so s start now name (ending.Trace Version) t.0 [] t.1 (record { refused = (ap header_of t.2 ∙ c.0, refl); shown = t.3; nothing = refl }) g)))
bad_ends s start now name r bytes all LinkType e since h g c d i =
    let t = shown_bad start now name r bytes all LinkType h (inr d) in
    let same : end.Refused LinkType ≡ e = cc i in
    subst (λ e. RunsTrace s start now name e) same (runs_so s start now name (end.Refused LinkType) since h.reading.later (inr (ends_so s start now name (ending.Trace LinkType) t.0 [] t.1 (record { refused = (ap header_of t.2 ∙ c.0, refl); shown = t.3; nothing = refl }) g)))
bad_ends s start now name r bytes all (Cut at) e since h g c d i = absurd (cc i)
bad_ends s start now name r bytes all (Huge at) e since h g c d i = absurd (cc i)

unheaded_ends : (s : Setting) (start now : Outside) (name : List ℕ) (r : Reading) (bytes : List ℕ) (most : ℕ) (st : Stop) (e : TraceEnd) → Since start now → IsRead start now name r bytes r.batch → Grows start.put now.put [] → Says start now name r bytes r.batch most st → unheaded_of st r.seen ≡ Some e → RunsTrace s start now name e
unheaded_ends s start now name r bytes most stop.Full e since h g says i = absurd (cc i)
unheaded_ends s start now name r bytes most stop.End e since h g says i = absurd (cc i)
unheaded_ends s start now name r bytes most stop.Fault e since h g says i = fault_ends s start now name r.source.file bytes r.seen e since h.reading g says.1 h.seen (nat_lt r.seen 24) refl i
unheaded_ends s start now name r bytes most (stop.Bad bad) e since h g says i = bad_ends s start now name r bytes r.batch bad e since h g says.1 says.2 i

pub head_none : (s : Setting) (start now : Outside) (name : List ℕ) (run : Run) (switch : SwitchNow) (t : Stretch) (most : ℕ) (e : TraceEnd) → unheaded_of t.stop run.reading.seen ≡ Some e → IsFirst s start now name run switch t most → RunsTrace s start now name e
head_none s start now name run switch t most e i f = unheaded_ends s start now name run.reading f.stops.bytes most t.stop e f.since f.stops.read f.puts f.stops.says i

-- ---- the first round

opened_holds : (s : Setting) (start now : Outside) (name : List ℕ) (run : Run) (switch : SwitchNow) → IsOpened s start now name run switch → Holds start now name run.reading []
opened_holds s start now name run switch o = record { bytes = []; read = subst (λ w. IsRead start now name run.reading [] w) (sym o.batch) o.read }

pub first_filled : (s : Setting) (start old now : Outside) (name : List ℕ) (run : Run) (switch : SwitchNow) (next most : ℕ) (st : Stop) (r : Reading) → IsNextCut s.commands 0 next → SameOutputs old now → FillsSo old now run.reading r most (Ok st) → IsOpened s start old name run switch → IsFirst s start now name (reading_on run r) switch (record { first = 0; next = next; stop = st }) most
first_filled s start old now name run switch next most st r after outputs fills o = record {
  since = since_read start old now o.since outputs;
  first = refl;
  next = after;
  stops = fills start name [] (opened_holds s start old name run switch o);
  at = o.at;
  short_is = o.short_is;
  puts = grows_read start old now [] outputs o.puts;
}

pub first_unfilled : (s : Setting) (start old now : Outside) (name : List ℕ) (run : Run) (switch : SwitchNow) (next : ℕ) (e : NoMemory) (r : Reading) → SameOutputs old now → FillsSo old now run.reading r next (Err e) → IsOpened s start old name run switch → RunsTrace s start now name end.Memory
first_unfilled s start old now name run switch next e r outputs fills o =
    let f = fills start name [] (opened_holds s start old name run switch o) in
    let bytes = f.bytes ++ f.more in
    let t = some_tells s bytes o.at.some o.at.few in
    runs_so s start now name end.Memory (since_read start old now o.since outputs) f.reading.later
    (inr (inr (record { trace = read_to Stopped bytes; reads = reads_stopped start now name r.source.file bytes f.reading; text = t.0; tells = t.1; puts = (0, grows_read start old now [] outputs o.puts) })))

-- ---- the trace wasn't opened

since_none : (a : Option Inputs) → TellsSince a a []
since_none None = tt
since_none (Some x) = record { files = refl; opened = sym (append-nil x.opened) }

pub unopened_fault : (s : Setting) (start now : Outside) (name : List ℕ) (why : Unopened) → why ≡ unopened.Fault → OpensSource start now name (Err why) → RunsTrace s start now name end.ReadFault
unopened_fault s start now name why e opens =
    let o = subst (λ w. OpensSource start now name (Err w)) e opens in record {
      ends = inl (o.2, record { since = o.3.since; nothing = subst (λ p. Grows start.put p []) (sym o.0.put) (grows_none start.put) });
      complained = o.0.complained;
      complain_faults = o.0.complain_faults;
      inputs_later = o.1;
      puts_later = omega (arith, o.0.put_faults);
    }

pub unopened_memory : (s : Setting) (start now : Outside) (name : List ℕ) (why : Unopened) → why ≡ unopened.Memory → OpensSource start now name (Err why) → RunsTrace s start now name end.Memory
unopened_memory s start now name why e opens =
    let o = subst (λ w. OpensSource start now name (Err w)) e opens in record {
      ends = inl (record { since = subst (λ i. TellsSince start.inputs i []) (sym o.1.inputs) (since_none start.inputs); nothing = subst (λ p. Grows start.put p []) (sym o.0.put) (grows_none start.put) });
      complained = o.0.complained;
      complain_faults = o.0.complain_faults;
      inputs_later = omega (arith, o.1.input_faults);
      puts_later = omega (arith, o.0.put_faults);
    }
