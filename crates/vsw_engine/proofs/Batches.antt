-- A batch is read, and its lines are put.
use Rattle.std.proofs.Common.{◌≡◌, ◌<◌, ◌≤◌, ◌+◌, ◌-◌, ◌*◌, inl, inr, ℕ, zero, suc, Some, Ok, Err, List, [], ◌++◌, length, take, take_all, drop, refl, sym, ◌∙◌, ap, subst, arith, append-nil, append_assoc, length-append, length-drop}
use Rattle.std.specs.Bool.{⊤}
use Rattle.vsw_base.specs.declared.fault.NoMemory.{NoMemory}
use Rattle.vsw_host.specs.Outside.{Outside, SameInputs, SameOutputs, DoesPut}
use Rattle.vsw_host.specs.Source.{IsReading}
use Rattle.vsw_host.specs.declared.host.Failed.{Failed}
use Rattle.vsw_offload.specs.declared.port_rows.PortRows.{PortRows}
use Rattle.vsw_pcap.specs.Capture.{front_of, header_of, IsCapture, Splits}
use Rattle.vsw_pcap.specs.Decides.{Decides}
use Rattle.vsw_pcap.specs.Reader.{Waits}
use Rattle.vsw_pcap.specs.declared.capture.Record.{Record}
use Rattle.vsw_pcap.specs.declared.fault.BadTrace.{BadTrace}
use Rattle.vsw_pcap.specs.declared.fault.BadTrace.TheVariants.{NotPcap, Version, LinkType, Cut, Huge}
use Rattle.vsw_pcap.proofs.Format.{accepted_long}
use Rattle.vsw_files.proofs.Growing.{front_then, grows_is, grows_then}
use Rattle.vsw_reading.specs.Passed.{IsPassed}
use Rattle.vsw_reading.specs.Reads.{IsOpen, IsRead, Peeks, Says, StopsSo}
use Rattle.vsw_reading.specs.declared.reading.Reading.{Reading}
use Rattle.vsw_reading.specs.declared.reading.Stop.{Stop}
use Rattle.vsw_reading.specs.declared.reading.Stop.TheVariants as stop
use Rattle.vsw_reading.proofs.Open.{FillsSo, PeeksSo, cleared, holds_cleared}
use Rattle.vsw_reading.proofs.Passing.{header_more, passed_first, passed_more, passed_read, splits_more}
use Rattle.vsw_reading.proofs.Splitting.{Passed, splits_shorter, stands_passed, stops_at}
use Rattle.vsw_reading.proofs.Staying.{reading_put}
use Rattle.vsw_engine.specs.Private.Going.{CanRead, IsBetween, IsFilled, IsNear, IsPut, IsTold, ShowsStop}
use Rattle.vsw_run.specs.Steps.{Reads}
use Rattle.vsw_engine.specs.Runs.{AnswersTrace}
use Rattle.vsw_engine.proofs.Lines.{lines_join}
use Rattle.vsw_engine.proofs.Sources.{answers_so, near_put, shows_put, since_put, told_read}
use Rattle.vsw_run.specs.ByRows.{EndsBehind, EndsSo, HasFirst, Pauses}
use Rattle.vsw_run.specs.Engine.{AreEngineLines, engine_head}
use Rattle.vsw_run.specs.Trace.{All, Fault, Stopped, Trace, most_records}
use Rattle.vsw_run.specs.declared.ending.Ending.{Ending}
use Rattle.vsw_run.proofs.ReadTo.{read_to, reads_fault, reads_stopped, reads_whole}
use Rattle.vsw_run.specs.declared.ending.Ending.TheVariants as ending

-- ---- why the reading stopped

pauses_of : (bytes : List ℕ) (all : List Record) → IsPassed bytes all → length all < most_records → Waits bytes all → Pauses bytes all
pauses_of bytes all p few (inl short) = absurd (omega (arith, short.0, accepted_long bytes p.form p.header))
pauses_of bytes all p few (inr w) = record { at = w.0; stops = w.1; few = omega (arith, few); last = λ e. absurd (omega (arith, e, few)) }

pub shows_of : (start now : Outside) (name : List ℕ) (r : Reading) (bytes : List ℕ) (all : List Record) (first : ℕ) (st : Stop) → IsPassed bytes all → IsRead start now name r bytes all → length all ≡ first + length r.batch → first + 64 ≤ most_records → Says start now name r bytes all 64 st → ShowsStop start now name r bytes all first st
shows_of start now name r bytes all first stop.Full p h size few says = (h, omega (arith, size, says), few)
shows_of start now name r bytes all first stop.End p h size few says = (says.1, says.2, omega (arith, says.0, size, few))
shows_of start now name r bytes all first stop.Fault p h size few says = (says.1, pauses_of bytes all p (omega (arith, says.0, size, few)) says.2)
shows_of start now name r bytes all first (stop.Bad bad) p h size few says = ((λ at e. h.end (subst (λ b. Decides b r.reader.finished (length bytes)) e says.2)), says.1, omega (arith, says.0, size, few))

-- ---- how the run ends

pub has_first : (bytes : List ℕ) (rs : List Record) → IsPassed bytes rs → HasFirst bytes rs
has_first bytes rs p = record { form = p.form; rest = p.rest; header = p.header; splits = p.splits }

-- the lines of these records were put, and the run ends so
ends_told : (ports : List PortRows) (start now : Outside) (name : List ℕ) (e : Ending) (t : Trace) (records : List Record) → Reads start now name t → EndsBehind t e (Some records) → IsTold ports start now records → EndsSo ports (Reads start now name) start now e
ends_told ports start now name e t records reads ends told = record { trace = t; reads = reads; records = Some records; ends = ends; text = engine_head ++ told.lines; tells = (told.lines, told.are, refl); puts = told.puts }

-- want of memory ended it behind the lines of these records
pub memory_ends : (ports : List PortRows) (start now : Outside) (name : List ℕ) (file : ℕ) (bytes : List ℕ) (records : List Record) → IsReading start now name file bytes → IsPassed bytes records → IsTold ports start now records → AnswersTrace ports start now name ending.Memory
memory_ends ports start now name file bytes records reading passed told =
    let text : List ℕ = engine_head ++ told.lines in
    answers_so ports start now name ending.Memory told.since reading.later (inr (inr (record {
      trace = read_to Stopped bytes;
      reads = reads_stopped start now name file bytes reading;
      records = records;
      first = has_first bytes records passed;
      text = text;
      tells = (told.lines, told.are, refl);
      puts = (length text, grows_is start.put now.put text (take (length text) text) (sym (take_all (length text) text (omega arith))) told.puts);
    })))

header_bad : (bytes : List ℕ) (all : List Record) (bad : BadTrace) → IsPassed bytes all → header_of bytes ≡ Err bad → ⊥
header_bad bytes all bad p e = let h = p.header in cc (e, h)

bad_ends : (ports : List PortRows) (start now : Outside) (name : List ℕ) (file : ℕ) (bytes : List ℕ) (all : List Record) (bad : BadTrace) → IsReading start now name file bytes → IsPassed bytes all → ((at : ℕ) → bad ≡ Cut at → Reads start now name (read_to All bytes)) → IsCapture bytes all (Some bad) → length all < most_records → IsTold ports start now all
    → EndsSo ports (Reads start now name) start now (ending.Trace bad)
bad_ends ports start now name file bytes all NotPcap r p whole c few told = absurd (header_bad bytes all NotPcap p c.0)
bad_ends ports start now name file bytes all Version r p whole c few told = absurd (header_bad bytes all Version p c.0)
bad_ends ports start now name file bytes all LinkType r p whole c few told = absurd (header_bad bytes all LinkType p c.0)
bad_ends ports start now name file bytes all (Cut at) r p whole c few told = ends_told ports start now name (ending.Trace (Cut at)) (read_to All bytes) all (whole at refl) (refl, c, few) told
bad_ends ports start now name file bytes all (Huge at) r p whole c few told = ends_told ports start now name (ending.Trace (Huge at)) (read_to Stopped bytes) all (reads_stopped start now name file bytes r) (c, few) told

-- ---- after the lines of a batch

pub put_full : (ports : List PortRows) (start now : Outside) (name : List ℕ) (r : Reading) (first : ℕ) → IsPut ports start now name r first stop.Full → IsBetween ports start now name r (first + 64)
put_full ports start now name r first p =
    let s = p.at.shows in
    record { bytes = p.at.bytes; given = p.all; read = s.0; some = omega (arith, s.1); count = s.1; puts = p.at.puts }

pub put_end : (ports : List PortRows) (start now : Outside) (name : List ℕ) (r : Reading) (first : ℕ) → IsPut ports start now name r first stop.End → AnswersTrace ports start now name ending.Done
put_end ports start now name r first p =
    let s = p.at.shows in
    answers_so ports start now name ending.Done p.at.puts.since p.at.reading.later (inr (ends_told ports start now name ending.Done (read_to All p.at.bytes) p.all (reads_whole start now name p.at.bytes s.0) (refl, s.1, s.2) p.at.puts))

pub put_fault : (ports : List PortRows) (start now : Outside) (name : List ℕ) (r : Reading) (first : ℕ) → IsPut ports start now name r first stop.Fault → AnswersTrace ports start now name ending.ReadFault
put_fault ports start now name r first p =
    let s = p.at.shows in
    answers_so ports start now name ending.ReadFault p.at.puts.since p.at.reading.later (inr (s.0, ends_told ports start now name ending.ReadFault (read_to Fault p.at.bytes) p.all (reads_fault start now name r.source.file p.at.bytes s.0 p.at.reading) (refl, s.1) p.at.puts))

pub put_bad : (ports : List PortRows) (start now : Outside) (name : List ℕ) (r : Reading) (first : ℕ) (bad : BadTrace) → IsPut ports start now name r first (stop.Bad bad) → AnswersTrace ports start now name (ending.Trace bad)
put_bad ports start now name r first bad p =
    let s = p.at.shows in
    answers_so ports start now name (ending.Trace bad) p.at.puts.since p.at.reading.later
    (inr (bad_ends ports start now name r.source.file p.at.bytes p.all bad p.at.reading p.at.passed (λ at e. reads_whole start now name p.at.bytes (s.0 at e)) s.1 s.2 p.at.puts))

-- ---- the lines of a batch

told_put : (ports : List PortRows) (start old now : Outside) (given batch : List Record) (first : ℕ) (text : List ℕ) (u : ⊤) → length given ≡ first → AreEngineLines ports first batch text → DoesPut old now text (Ok u) → IsTold ports start old given → IsTold ports start now (given ++ batch)
told_put ports start old now given batch first text u count lines d t =
    let from : first ≡ 0 + length given = omega (arith, count) in record {
      since = since_put start old now text (Ok u) t.since d;
      lines = t.lines ++ text;
      are = lines_join ports 0 given batch t.lines text t.are (subst (λ k. AreEngineLines ports k batch text) from lines);
      puts = grows_is start.put now.put (engine_head ++ t.lines ++ text) (engine_head ++ (t.lines ++ text)) (append_assoc engine_head t.lines text) (grows_then start.put old.put now.put (engine_head ++ t.lines) text t.puts d.told);
    }

pub batch_put : (ports : List PortRows) (start old now : Outside) (name : List ℕ) (r : Reading) (first : ℕ) (st : Stop) (text : List ℕ) (u : ⊤) → AreEngineLines ports first r.batch text → DoesPut old now text (Ok u) → IsFilled ports start old name r first st → IsPut ports start now name r first st
batch_put ports start old now name r first st text u lines d f =
    let all : List Record = f.given ++ r.batch in record {
      all = all;
      at = record {
        bytes = f.at.bytes;
        reading = reading_put start old now name r.source.file f.at.bytes d.inputs f.at.reading;
        passed = f.at.passed;
        shows = shows_put start old now name r f.at.bytes all first st d.inputs f.at.shows;
        puts = told_put ports start old now f.given r.batch first text u f.count lines d f.at.puts;
      };
    }

pub batch_unput : (ports : List PortRows) (start old now : Outside) (name : List ℕ) (r : Reading) (first : ℕ) (st : Stop) (text : List ℕ) (e : Failed) → AreEngineLines ports first r.batch text → DoesPut old now text (Err e) → IsFilled ports start old name r first st → AnswersTrace ports start now name ending.WriteFault
batch_unput ports start old now name r first st text e lines d f =
    let t = f.at.puts in
    let all : List Record = f.given ++ r.batch in
    let from : first ≡ 0 + length f.given = omega (arith, f.count) in
    let whole : engine_head ++ t.lines ++ text ≡ engine_head ++ (t.lines ++ text) = append_assoc engine_head t.lines text in
    let n : ℕ = length (engine_head ++ t.lines) + d.told.0 in
    let reading = reading_put start old now name r.source.file f.at.bytes d.inputs f.at.reading in
    answers_so ports start now name ending.WriteFault (since_put start old now text (Err e) t.since d) reading.later (inr (
      omega (arith, t.since.puts_later, d.cause.failed),
      record {
        trace = read_to Stopped f.at.bytes;
        reads = reads_stopped start now name r.source.file f.at.bytes reading;
        records = all;
        first = has_first f.at.bytes all f.at.passed;
        text = engine_head ++ (t.lines ++ text);
        tells = (t.lines ++ text, lines_join ports 0 f.given r.batch t.lines text t.are (subst (λ k. AreEngineLines ports k r.batch text) from lines), refl);
        puts = (n, grows_is start.put now.put (take n (engine_head ++ t.lines ++ text)) (take n (engine_head ++ (t.lines ++ text))) (ap (take n) whole) (front_then start.put old.put now.put (engine_head ++ t.lines) text d.told.0 t.puts d.told.1));
      },
    ))

pub batch_unwritten : (ports : List PortRows) (start now : Outside) (name : List ℕ) (r : Reading) (first : ℕ) (st : Stop) → IsFilled ports start now name r first st → AnswersTrace ports start now name ending.Memory
batch_unwritten ports start now name r first st f = memory_ends ports start now name r.source.file f.at.bytes f.given f.at.reading (passed_first f.at.bytes f.given r.batch f.at.passed) f.at.puts

-- ---- the next batch

-- behind whole batches, fewer records than a trace may have: there is room for one batch more
pub room_for : (first k : ℕ) → first ≡ 64 * k → first ≤ 1048576 → (first ≡ 1048576 → ⊥) → first + 64 ≤ most_records
room_for first k is few other = by (first + 64 - most_records) refl
  where
    by : (over : ℕ) → first + 64 - most_records ≡ over → first + 64 ≤ most_records
    by zero e = omega (arith, e)
    by (suc n) e = absurd (omega (arith, e, is, few, other))

filled : (ports : List PortRows) (start old now : Outside) (name : List ℕ) (first : ℕ) (st : Stop) (q r : Reading) (bytes : List ℕ) → (b : IsBetween ports start old name q first) → SameOutputs old now → IsReading start now name r.source.file bytes → IsPassed bytes (b.given ++ r.batch)
    → ShowsStop start now name r bytes (b.given ++ r.batch) first st → IsFilled ports start now name r first st
filled ports start old now name first st q r bytes b outputs reading passed shows = record {
  given = b.given;
  count = b.count;
  at = record { bytes = bytes; reading = reading; passed = passed; shows = shows; puts = told_read ports start old now b.given outputs b.puts };
}

pub next_filled : (ports : List PortRows) (start old now : Outside) (name : List ℕ) (first : ℕ) (st : Stop) (q r : Reading) → first + 64 ≤ most_records → SameOutputs old now → FillsSo old now (cleared q) r 64 (Ok st) → IsBetween ports start old name q first → IsFilled ports start now name r first st
next_filled ports start old now name first st q r few outputs fills b =
    let f = fills start name b.given (holds_cleared start old name q b.bytes b.given b.read) in
    let all : List Record = b.given ++ r.batch in
    let total : length all ≡ length b.given + length r.batch = length-append b.given r.batch in
    let passed = passed_read r.reader f.bytes all (omega (arith, total, b.some)) f.read.stands in
    filled ports start old now name first st q r f.bytes b outputs f.read.reading passed (shows_of start now name r f.bytes all first st passed f.read (omega (arith, total, b.count)) few f.says)

pub next_unfilled : (ports : List PortRows) (start old now : Outside) (name : List ℕ) (first : ℕ) (e : NoMemory) (q r : Reading) → SameOutputs old now → FillsSo old now (cleared q) r 64 (Err e) → IsBetween ports start old name q first → AnswersTrace ports start now name ending.Memory
next_unfilled ports start old now name first e q r outputs fills b =
    let f = fills start name b.given (holds_cleared start old name q b.bytes b.given b.read) in
    let all : List Record = b.given ++ r.batch in
    let total : length all ≡ length b.given + length r.batch = length-append b.given r.batch in
    let passed = passed_first (f.bytes ++ f.more) b.given r.batch (passed_more f.bytes f.more all (passed_read r.reader f.bytes all (omega (arith, total, b.some)) f.stands)) in
    memory_ends ports start now name r.source.file (f.bytes ++ f.more) b.given f.reading passed (told_read ports start old now b.given outputs b.puts)

-- ---- after as many records as a trace may have

-- a byte follows
pub next_more : (ports : List PortRows) (start old now : Outside) (name : List ℕ) (first : ℕ) (q r : Reading) → first ≡ 1048576 → r.reader ≡ q.reader → SameOutputs old now → PeeksSo old now (cleared q) r stop.Full → IsBetween ports start old name q first → AnswersTrace ports start now name ending.Records
next_more ports start old now name first q r full same outputs peeks b =
    let h = b.read in
    let p = peeks start name b.bytes b.given (record { reading = h.reading; stands = h.stands; seen = h.seen; end = h.end }) in
    let bytes : List ℕ = b.bytes ++ p.0 in
    let t = stands_passed q.reader b.bytes b.given b.some h.stands in
    let rest : List ℕ = q.reader.left ++ p.0 in
    let header = header_more b.bytes p.0 t.form t.header in
    let splits = splits_more b.bytes p.0 t.form b.given q.reader.left t.header t.splits in
    let some : 0 < length rest = subst (λ (l : List ℕ). 0 < length (l ++ p.0)) (ap (λ w. w.left) same) p.2 in
    let told = told_read ports start old now b.given outputs b.puts in
    answers_so ports start now name ending.Records told.since p.1.later (inr (ends_told ports start now name ending.Records (read_to Stopped bytes) b.given (reads_stopped start now name r.source.file bytes p.1) (record {
      at = length bytes - length rest;
      front = front_of t.form rest;
      stops = stops_at bytes t.form b.given rest (front_of t.form rest) header splits refl;
      more = omega (arith, some, splits_shorter t.form (drop 24 bytes) b.given rest splits, length-drop 24 bytes);
      full = b.count ∙ full;
    }) told))

-- none does
pub next_none : (ports : List PortRows) (start old now : Outside) (name : List ℕ) (first : ℕ) (st : Stop) (q r : Reading) → first ≡ 1048576 → r.reader ≡ q.reader → r.batch ≡ [] → (st ≡ stop.Full → ⊥) → SameOutputs old now → PeeksSo old now (cleared q) r st → IsBetween ports start old name q first → IsFilled ports start now name r first st
next_none ports start old now name first st q r full same none other outputs peeks b = by st other (peeks start name b.bytes b.given (record { reading = b.read.reading; stands = b.read.stands; seen = b.read.seen; end = b.read.end }))
  where
    all : List Record
    all = b.given ++ r.batch

    all_is : b.given ≡ all
    all_is = sym (ap (λ w. b.given ++ w) none ∙ append-nil b.given)

    total : length all ≡ first
    total = sym (ap length all_is) ∙ b.count

    passed : Passed b.bytes b.given q.reader.left
    passed = stands_passed q.reader b.bytes b.given b.some b.read.stands

    whole : r.reader.left ≡ [] → Splits passed.form (drop 24 b.bytes) all []
    whole e = subst (λ w. Splits passed.form (drop 24 b.bytes) w []) all_is (subst (λ l. Splits passed.form (drop 24 b.bytes) b.given l) (ap (λ q. q.left) (sym same) ∙ e) passed.splits)

    found : r.reader.left ≡ [] → IsPassed b.bytes all
    found e = record { form = passed.form; rest = []; header = passed.header; splits = whole e }

    by : (st : Stop) → (st ≡ stop.Full → ⊥) → Peeks start now name r b.bytes st → IsFilled ports start now name r first st
    by stop.Full other p = absurd (other refl)
    by stop.End other p = filled ports start old now name first stop.End q r b.bytes b outputs p.2 (found p.0) (p.1, (passed.form, passed.header, whole p.0), omega (arith, total, full))
    by stop.Fault other p = filled ports start old now name first stop.Fault q r b.bytes b outputs p.2 (found p.0)
        (p.1, record { at = length b.bytes; stops = record { form = passed.form; rest = []; header = passed.header; splits = whole p.0; place = omega arith; begins = refl }; few = omega (arith, total, full); last = λ e. refl })
    by (stop.Bad bad) other p = absurd p

-- ---- what can be done next

small : (start now : Outside) (name : List ℕ) (r : Reading) (bytes : List ℕ) (all : List Record) (most : ℕ) (st : Stop) → Says start now name r bytes all most st → length r.batch ≤ most
small start now name r bytes all most stop.Full says = omega (arith, says)
small start now name r bytes all most stop.End says = omega (arith, says.0)
small start now name r bytes all most stop.Fault says = omega (arith, says.0)
small start now name r bytes all most (stop.Bad bad) says = omega (arith, says.0)

pub near_filled : (old now : Outside) (from r : Reading) (first : ℕ) (st : Stop) → (k : ℕ) × (first ≡ 64 * k) → first + 64 ≤ most_records → IsOpen old from → FillsSo old now from r 64 (Ok st) → IsNear now r first st
near_filled old now from r first st whole few o fills =
    let f = fills o.start o.name o.given o.reads in
    record { low = omega (arith, few); whole = whole; size = small o.start now o.name r f.bytes (o.given ++ r.batch) 64 st f.says; goes = by st f }
  where
    by : (st : Stop) → StopsSo o.start now o.name r o.given 64 st → CanRead now r first st
    by stop.Full f = (record { start = o.start; name = o.name; given = o.given; reads = record { bytes = f.bytes; read = f.read } }, few)
    by stop.End f = tt
    by stop.Fault f = tt
    by (stop.Bad bad) f = tt

pub near_none : (now : Outside) (r : Reading) (first : ℕ) (st : Stop) → (k : ℕ) × (first ≡ 64 * k) → first ≡ 1048576 → r.batch ≡ [] → (st ≡ stop.Full → ⊥) → IsNear now r first st
near_none now r first st whole full none other = record { low = omega (arith, full); whole = whole; size = omega (arith, ap length none); goes = by st other }
  where
    by : (st : Stop) → (st ≡ stop.Full → ⊥) → CanRead now r first st
    by stop.Full other = absurd (other refl)
    by stop.End other = tt
    by stop.Fault other = tt
    by (stop.Bad bad) other = tt

-- the next batch begins behind this one
pub open_next : (old now : Outside) (r : Reading) (first : ℕ) (st : Stop) → st ≡ stop.Full → SameInputs old now → IsNear old r first st → IsOpen now r × (first + 64 ≤ 1048576) × ((k : ℕ) × (first + 64 ≡ 64 * k))
open_next old now r first st is same h =
    let n : IsNear now r first stop.Full = subst (IsNear now r first) is (near_put old now r first st same h) in
    (n.goes.0, n.goes.1, (n.whole.0 + 1, omega (arith, n.whole.1)))
