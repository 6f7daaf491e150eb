-- The head of what is put, and traces of which no header was accepted.
use Rattle.std.proofs.Common.{◌≡◌, ◌<◌, ◌≤◌, ◌⊎◌, inl, inr, ℕ, Bool, true, false, nat_lt, if◌then◌else◌, Some, None, Ok, Err, List, [], ◌++◌, length, take, min, refl, sym, ◌∙◌, ap, subst, arith, append-nil}
use Rattle.std.specs.Bool.{⊤}
use Rattle.std.proofs.lemmas.Grind.{common_steps}
use Rattle.vsw_base.specs.declared.fault.NoMemory.{NoMemory}
use Rattle.vsw_files.proofs.Growing.{grows_is, grows_none, grows_same, grows_then}
use Rattle.vsw_host.specs.Outside.{Outside, Grows, Rose, SameOutputs, DoesPut}
use Rattle.vsw_host.specs.Source.{IsReading, OpensSource}
use Rattle.vsw_host.specs.Told.{TellsSince}
use Rattle.vsw_host.specs.declared.source.Unopened.{Unopened}
use Rattle.vsw_host.specs.declared.source.Unopened.TheVariants as unopened
use Rattle.vsw_host.specs.declared.host.Failed.{Failed}
use Rattle.vsw_host.proofs.CallerLemmas.{TellsSince-refl}
use Rattle.vsw_offload.specs.declared.port_rows.PortRows.{PortRows}
use Rattle.vsw_pcap.specs.Capture.{header_of, IsCapture}
use Rattle.vsw_pcap.specs.Decides.{Decides}
use Rattle.vsw_pcap.specs.declared.capture.Record.{Record}
use Rattle.vsw_pcap.specs.declared.fault.BadTrace.{BadTrace}
use Rattle.vsw_pcap.specs.declared.fault.BadTrace.TheVariants.{NotPcap, Version, LinkType, Cut, Huge}
use Rattle.vsw_reading.specs.Passed.{IsPassed}
use Rattle.vsw_reading.specs.Reads.{IsRead, Holds, Says}
use Rattle.vsw_reading.specs.declared.reading.Reading.{Reading}
use Rattle.vsw_reading.specs.declared.reading.Stop.{Stop}
use Rattle.vsw_reading.specs.declared.reading.Stop.TheVariants as stop
use Rattle.vsw_reading.proofs.Open.{FillsSo}
use Rattle.vsw_reading.proofs.Passing.{passed_read, waits_passed}
use Rattle.vsw_reading.proofs.Staying.{reading_put}
use Rattle.vsw_engine.specs.Private.Going.{IsFilled, IsFirst, IsOpened, Since, unheaded_of}
use Rattle.vsw_run.specs.Steps.{Reads}
use Rattle.vsw_engine.specs.Runs.{AnswersTrace}
use Rattle.vsw_engine.proofs.Batches.{shows_of}
use Rattle.vsw_engine.proofs.Sources.{answers_so, grows_read, shows_put, since_put, since_read}
use Rattle.vsw_run.specs.ByRows.{EndsBehind, EndsSo}
use Rattle.vsw_run.specs.Engine.{engine_head}
use Rattle.vsw_run.specs.Trace.{All, Fault, Stopped, Trace}
use Rattle.vsw_run.specs.declared.ending.Ending.{Ending}
use Rattle.vsw_run.proofs.ReadTo.{read_to, reads_fault, reads_stopped, reads_whole}
use Rattle.vsw_run.specs.declared.ending.Ending.TheVariants as ending

-- ---- a header was accepted

less_seen : (n : ℕ) → (if nat_lt n 24 then Some ending.ReadFault else None) ≡ None → 24 ≤ n
less_seen n e = by (nat_lt n 24) refl e
  where
    by : (b : Bool) → nat_lt n 24 ≡ b → (if b then Some ending.ReadFault else None) ≡ None → 24 ≤ n
    by true t e = absurd (cc e)
    by false t e = grind (arith, common_steps)

bad_passed : (bytes : List ℕ) (all : List Record) (bad : BadTrace) (seen : ℕ) → IsCapture bytes all (Some bad) → unheaded_of (stop.Bad bad) seen ≡ None → IsPassed bytes all
bad_passed bytes all NotPcap seen c e = absurd (cc e)
bad_passed bytes all Version seen c e = absurd (cc e)
bad_passed bytes all LinkType seen c e = absurd (cc e)
bad_passed bytes all (Cut at) seen c e = record { form = c.0.form; rest = c.0.rest; header = c.0.header; splits = c.0.splits }
bad_passed bytes all (Huge at) seen c e = record { form = c.form; rest = c.rest; header = c.header; splits = c.splits }

-- the first batch
headed : (start now : Outside) (name : List ℕ) (r : Reading) (bytes : List ℕ) (st : Stop) → IsRead start now name r bytes r.batch → Says start now name r bytes r.batch 64 st → unheaded_of st r.seen ≡ None → IsPassed bytes r.batch
headed start now name r bytes stop.Full h says e = passed_read r.reader bytes r.batch (omega (arith, says)) h.stands
headed start now name r bytes stop.End h says e = record { form = says.2.0; rest = []; header = says.2.1; splits = says.2.2 }
headed start now name r bytes stop.Fault h says e = waits_passed bytes r.batch (omega (arith, less_seen r.seen e, h.seen)) says.2
headed start now name r bytes (stop.Bad bad) h says e = bad_passed bytes r.batch bad r.seen says.1 e

-- the head line was put
pub head_put : (ports : List PortRows) (start old now : Outside) (name : List ℕ) (r : Reading) (st : Stop) (u : ⊤) → unheaded_of st r.seen ≡ None → DoesPut old now engine_head (Ok u) → IsFirst start old name r st → IsFilled ports start now name r 0 st
head_put ports start old now name r st u e d f =
    let p = f.stops in
    let passed = headed start old name r p.bytes st p.read p.says e in
    let shows = shows_of start old name r p.bytes r.batch 0 st passed p.read (omega arith) (omega arith) p.says in record {
      given = [];
      count = refl;
      at = record {
        bytes = p.bytes;
        reading = reading_put start old now name r.source.file p.bytes d.inputs p.read.reading;
        passed = passed;
        shows = shows_put start old now name r p.bytes r.batch 0 st d.inputs shows;
        puts = record {
          since = since_put start old now engine_head (Ok u) f.since d;
          lines = [];
          are = refl;
          puts = grows_is start.put now.put engine_head (engine_head ++ []) (sym (append-nil engine_head)) (grows_then start.put old.put now.put [] engine_head f.puts d.told);
        };
      };
    }

-- or a front of it
pub head_unput : (ports : List PortRows) (start old now : Outside) (name : List ℕ) (r : Reading) (st : Stop) (x : Failed) → unheaded_of st r.seen ≡ None → DoesPut old now engine_head (Err x) → IsFirst start old name r st → AnswersTrace ports start now name ending.WriteFault
head_unput ports start old now name r st x e d f =
    let p = f.stops in
    let passed = headed start old name r p.bytes st p.read p.says e in
    let reading = reading_put start old now name r.source.file p.bytes d.inputs p.read.reading in
    answers_so ports start now name ending.WriteFault (since_put start old now engine_head (Err x) f.since d) reading.later (inr (
      omega (arith, f.since.puts_later, d.cause.failed),
      record {
        trace = read_to Stopped p.bytes;
        reads = reads_stopped start now name r.source.file p.bytes reading;
        records = [];
        first = record { form = passed.form; rest = _; header = passed.header; splits = refl };
        text = engine_head ++ [];
        tells = ([], refl, refl);
        puts = (d.told.0, grows_is start.put now.put (take d.told.0 engine_head) (take d.told.0 (engine_head ++ [])) (ap (take d.told.0) (sym (append-nil engine_head))) (grows_then start.put old.put now.put [] (take d.told.0 engine_head) f.puts d.told.1));
      },
    ))

-- ---- no header was accepted

nothing_told : (ports : List PortRows) (start now : Outside) (name : List ℕ) (e : Ending) (t : Trace) → Reads start now name t → EndsBehind t e None → Grows start.put now.put [] → EndsSo ports (Reads start now name) start now e
nothing_told ports start now name e t reads ends puts = record { trace = t; reads = reads; records = None; ends = ends; text = []; tells = refl; puts = puts }

fault_ends : (ports : List PortRows) (start now : Outside) (name : List ℕ) (file : ℕ) (bytes : List ℕ) (seen : ℕ) (e : Ending) → Since start now → IsReading start now name file bytes → Grows start.put now.put [] → Rose start.input_faults now.input_faults → seen ≡ min 24 (length bytes) → (b : Bool) → nat_lt seen 24 ≡ b → (if b then Some ending.ReadFault else None) ≡ Some e
    → AnswersTrace ports start now name e
fault_ends ports start now name file bytes seen e since r g rose is true t h =
    let few : length bytes < 24 = grind (arith, common_steps) in
    let same : ending.ReadFault ≡ e = cc h in
    subst (AnswersTrace ports start now name) same (answers_so ports start now name ending.ReadFault since r.later (inr (rose, nothing_told ports start now name ending.ReadFault (read_to Fault bytes) (reads_fault start now name file bytes rose r) (refl, few) g)))
fault_ends ports start now name file bytes seen e since r g rose is false t h = absurd (cc h)

-- a trace with a bad header is refused by its 24 bytes, or by its end
shown_bad : (start now : Outside) (name : List ℕ) (r : Reading) (bytes : List ℕ) (all : List Record) → IsRead start now name r bytes all → (r.reader.finished ≡ true) ⊎ (24 ≤ length bytes) → (t : Trace) × Reads start now name t × (t.bytes ≡ bytes) × ((t.reach ≡ All) ⊎ (24 ≤ length t.bytes))
shown_bad start now name r bytes all h (inl f) = (read_to All bytes, reads_whole start now name bytes (h.end f), refl, inl refl)
shown_bad start now name r bytes all h (inr long) = (read_to Stopped bytes, reads_stopped start now name r.source.file bytes h.reading, refl, inr long)

bad_ends : (ports : List PortRows) (start now : Outside) (name : List ℕ) (r : Reading) (bytes : List ℕ) (all : List Record) (bad : BadTrace) (e : Ending) → Since start now → IsRead start now name r bytes all → Grows start.put now.put [] → IsCapture bytes all (Some bad) → Decides bad r.reader.finished (length bytes) → unheaded_of (stop.Bad bad) r.seen ≡ Some e
    → AnswersTrace ports start now name e
bad_ends ports start now name r bytes all NotPcap e since h g c d i =
    let t = shown_bad start now name r bytes all h d in
    let same : ending.Trace NotPcap ≡ e = cc i in
    subst (AnswersTrace ports start now name) same (answers_so ports start now name (ending.Trace NotPcap) since h.reading.later (inr (nothing_told ports start now name (ending.Trace NotPcap) t.0 t.1 ((ap header_of t.2 ∙ c.0, refl), t.3) g)))
bad_ends ports start now name r bytes all Version e since h g c d i =
    let t = shown_bad start now name r bytes all h (inr d) in
    let same : ending.Trace Version ≡ e = cc i in
    subst (AnswersTrace ports start now name) same (answers_so ports start now name (ending.Trace Version) since h.reading.later (inr (nothing_told ports start now name (ending.Trace Version) t.0 t.1 ((ap header_of t.2 ∙ c.0, refl), t.3) g)))
bad_ends ports start now name r bytes all LinkType e since h g c d i =
    let t = shown_bad start now name r bytes all h (inr d) in
    let same : ending.Trace LinkType ≡ e = cc i in
    subst (AnswersTrace ports start now name) same (answers_so ports start now name (ending.Trace LinkType) since h.reading.later (inr (nothing_told ports start now name (ending.Trace LinkType) t.0 t.1 ((ap header_of t.2 ∙ c.0, refl), t.3) g)))
bad_ends ports start now name r bytes all (Cut at) e since h g c d i = absurd (cc i)
bad_ends ports start now name r bytes all (Huge at) e since h g c d i = absurd (cc i)

unheaded_ends : (ports : List PortRows) (start now : Outside) (name : List ℕ) (r : Reading) (bytes : List ℕ) (st : Stop) (e : Ending) → Since start now → IsRead start now name r bytes r.batch → Grows start.put now.put [] → Says start now name r bytes r.batch 64 st → unheaded_of st r.seen ≡ Some e → AnswersTrace ports start now name e
unheaded_ends ports start now name r bytes stop.Full e since h g says i = absurd (cc i)
unheaded_ends ports start now name r bytes stop.End e since h g says i = absurd (cc i)
unheaded_ends ports start now name r bytes stop.Fault e since h g says i = fault_ends ports start now name r.source.file bytes r.seen e since h.reading g says.1 h.seen (nat_lt r.seen 24) refl i
unheaded_ends ports start now name r bytes (stop.Bad bad) e since h g says i = bad_ends ports start now name r bytes r.batch bad e since h g says.1 says.2 i

pub head_none : (ports : List PortRows) (start now : Outside) (name : List ℕ) (r : Reading) (st : Stop) (e : Ending) → unheaded_of st r.seen ≡ Some e → IsFirst start now name r st → AnswersTrace ports start now name e
head_none ports start now name r st e i f = unheaded_ends ports start now name r f.stops.bytes st e f.since f.stops.read f.puts f.stops.says i

-- ---- the first batch

opened_holds : (start now : Outside) (name : List ℕ) (r : Reading) → IsOpened start now name r → Holds start now name r []
opened_holds start now name r o = record { bytes = []; read = subst (λ (w : List Record). IsRead start now name r [] w) (sym o.batch) o.read }

pub first_filled : (start old now : Outside) (name : List ℕ) (q r : Reading) (st : Stop) → SameOutputs old now → FillsSo old now q r 64 (Ok st) → IsOpened start old name q → IsFirst start now name r st
first_filled start old now name q r st outputs fills o = record {
  since = since_read start old now o.since outputs;
  stops = fills start name [] (opened_holds start old name q o);
  puts = grows_read start old now [] outputs o.puts;
}

pub first_unfilled : (ports : List PortRows) (start old now : Outside) (name : List ℕ) (q r : Reading) (e : NoMemory) → SameOutputs old now → FillsSo old now q r 64 (Err e) → IsOpened start old name q → AnswersTrace ports start now name ending.Memory
first_unfilled ports start old now name q r e outputs fills o =
    let f = fills start name [] (opened_holds start old name q o) in
    let bytes : List ℕ = f.bytes ++ f.more in
    answers_so ports start now name ending.Memory (since_read start old now o.since outputs) f.reading.later (inr (inl (record { trace = read_to Stopped bytes; reads = reads_stopped start now name r.source.file bytes f.reading; nothing = grows_read start old now [] outputs o.puts })))

-- ---- the trace wasn't opened

since_nothing : (now : Outside) → Since now now
since_nothing now = record { complained = refl; complain_faults = refl; puts_later = omega arith }

-- a desk couldn't be made
pub unmade : (ports : List PortRows) (now : Outside) (name : List ℕ) → AnswersTrace ports now now name ending.Memory
unmade ports now name = answers_so ports now now name ending.Memory (since_nothing now) (omega arith) (inl (record { since = TellsSince-refl now.inputs; nothing = grows_none now.put }))

pub unopened_fault : (ports : List PortRows) (start now : Outside) (name : List ℕ) (why : Unopened) → why ≡ unopened.Fault → OpensSource start now name (Err why) → AnswersTrace ports start now name ending.ReadFault
unopened_fault ports start now name why e opens =
    let o = subst (λ w. OpensSource start now name (Err w)) e opens in
    answers_so ports start now name ending.ReadFault (since_read start start now (since_nothing start) o.0) o.1 (inl (o.2, record { since = o.3.since; nothing = grows_same start.put now.put o.0.put }))

pub unopened_memory : (ports : List PortRows) (start now : Outside) (name : List ℕ) (why : Unopened) → why ≡ unopened.Memory → OpensSource start now name (Err why) → AnswersTrace ports start now name ending.Memory
unopened_memory ports start now name why e opens =
    let o = subst (λ w. OpensSource start now name (Err w)) e opens in
    answers_so ports start now name ending.Memory (since_read start start now (since_nothing start) o.0) (omega (arith, o.1.input_faults))
    (inl (record { since = subst (λ i. TellsSince start.inputs i []) (sym o.1.inputs) (TellsSince-refl start.inputs); nothing = grows_same start.put now.put o.0.put }))

-- nothing was read of it yet
pub opened : (start now : Outside) (name : List ℕ) (r : Reading) → SameOutputs start now → r.batch ≡ [] → IsRead start now name r [] [] → IsOpened start now name r
opened start now name r same batch read = record { since = since_read start start now (since_nothing start) same; read = read; batch = batch; puts = grows_same start.put now.put same.put }
