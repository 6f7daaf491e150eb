-- The records of a round were read, or the run ended in that.
use Rattle.std.proofs.Common.{◌≡◌, ◌<◌, ◌≤◌, inl, inr, ◌+◌, ◌-◌, ℕ, Ok, Err, List, [], ◌++◌, length, drop, refl, sym, ◌∙◌, ap, subst, arith, append-nil, length-append, length-drop}
use Rattle.vsw_commandfile.specs.declared.line.Line.{Line}
use Rattle.vsw_base.specs.declared.fault.NoMemory.{NoMemory}
use Rattle.vsw_host.specs.Outside.{Outside, SameOutputs}
use Rattle.vsw_host.specs.Source.{IsReading}
use Rattle.vsw_pcap.specs.Capture.{front_of, Splits}
use Rattle.vsw_pcap.specs.Decides.{Decides}
use Rattle.vsw_pcap.specs.Reader.{Waits}
use Rattle.vsw_pcap.specs.declared.capture.Record.{Record}
use Rattle.vsw_pcap.proofs.Format.{accepted_long}
use Rattle.vsw_promise.specs.Jobs.{Setting, cuts_within}
use Rattle.vsw_run.specs.Trace.{most_records, Stopped}
use Rattle.vsw_run.specs.declared.ending.Ending.TheVariants as ending
use Rattle.vsw_report.specs.Print.{report_text}
use Rattle.vsw_crew.specs.Switch.{SwitchNow}
use Rattle.vsw_replay.specs.declared.ending.TraceEnd.TheVariants as end
use Rattle.vsw_reading.specs.declared.reading.Reading.{Reading}
use Rattle.vsw_reading.specs.declared.reading.Stop.{Stop}
use Rattle.vsw_reading.specs.declared.reading.Stop.TheVariants as stop
use Rattle.vsw_replay.specs.declared.trace.Run.{Run}
use Rattle.vsw_replay.specs.declared.trace.Stretch.{Stretch}
use Rattle.vsw_replay.specs.Private.Cut.{IsCut, IsNextCut}
use Rattle.vsw_replay.specs.Private.Going.{ShowsStop, IsAsLong, IsFilled, IsBetween, CanRead, IsNear}
use Rattle.vsw_replay.specs.Private.Next.{IsReadUpTo, IsReadShort}
use Rattle.vsw_replay.specs.Private.Pauses.{Pauses}
use Rattle.vsw_reading.specs.Passed.{IsPassed}
use Rattle.vsw_reading.specs.Reads.{IsRead, IsOpen, Says, StopsSo, Peeks}
use Rattle.vsw_replay.specs.Runs.{RunsTrace}
use Rattle.vsw_replay.specs.Private.SoFar.{AreSoFar}
use Rattle.vsw_replay.proofs.Completing.{tells_within, front_follows}
use Rattle.vsw_reading.proofs.Passing.{passed_first, passed_more, header_more, splits_more, passed_read}
use Rattle.vsw_replay.proofs.Sources.{since_read, grows_read, runs_so, ends_so, breaks_after}
use Rattle.vsw_reading.proofs.Splitting.{Passed, splits_shorter, stops_at, stands_passed}
use Rattle.vsw_run.proofs.ReadTo.{read_to, reads_stopped}
use Rattle.vsw_reading.proofs.Open.{cleared, holds_cleared, FillsSo, PeeksSo}

-- ---- why the reading stopped

-- a trace waits for more bytes behind an accepted header
pauses_of : (bytes : List ℕ) (all : List Record) → IsPassed bytes all → length all < most_records → Waits bytes all → Pauses bytes all
pauses_of bytes all p few (inl short) = absurd (omega (arith, short.0, accepted_long bytes p.form p.header))
pauses_of bytes all p few (inr w) = record { at = w.0; stops = w.1; last = λ e. absurd (omega (arith, e, few)) }

pub shows_of : (start now : Outside) (name : List ℕ) (r : Reading) (bytes : List ℕ) (all : List Record) (most next : ℕ) (st : Stop) → IsPassed bytes all → IsRead start now name r bytes all → length all + most ≡ next + length r.batch → next ≤ most_records → Says start now name r bytes all most st → ShowsStop start now name r bytes all st × IsAsLong st next (length all)
shows_of start now name r bytes all most next stop.Full p h size few says = (h, (omega (arith, size, says), few))
shows_of start now name r bytes all most next stop.End p h size few says = ((says.1, says.2, omega (arith, says.0, size, few)), omega (arith, says.0, size))
shows_of start now name r bytes all most next stop.Fault p h size few says = ((says.1, pauses_of bytes all p (omega (arith, says.0, size, few)) says.2, omega (arith, says.0, size, few)), omega (arith, says.0, size))
shows_of start now name r bytes all most next (stop.Bad bad) p h size few says = (((λ at e. h.end (subst (λ b. Decides b r.reader.finished (length bytes)) e says.2)), says.1, omega (arith, says.0, size, few)), omega (arith, says.0, size))

-- the next cut of a trace that isn't full lies within what it may have
pub next_few : (commands : List Line) (first next : ℕ) → first < most_records → IsNextCut commands first next → next ≤ most_records
next_few commands first next lt n = n.least most_records lt (inr (1024, refl))

-- ---- the next round

-- the run with this reading
abbrev pub reading_on : Run → Reading → Run
reading_on run r = record { reading = r; text = run.text; short = run.short }

filled : (s : Setting) (start old now : Outside) (name : List ℕ) (run : Run) (switch : SwitchNow) (first next : ℕ) (st : Stop) (r : Reading) (bytes : List ℕ) → (b : IsBetween s start old name run switch first) → SameOutputs old now → IsNextCut s.commands first next → IsReading start now name r.source.file bytes → IsPassed bytes (IsBetween.given b ++ r.batch)
    → ShowsStop start now name r bytes (IsBetween.given b ++ r.batch) st → IsAsLong st next (length (IsBetween.given b ++ r.batch)) → IsFilled s start now name (reading_on run r) switch (record { first = first; next = next; stop = st })
filled s start old now name run switch first next st r bytes b outputs after reading passed shows long = record {
  bytes = bytes;
  given = b.given;
  rounds = b.rounds;
  histories = b.histories;
  since = since_read start old now b.since outputs;
  reading = reading;
  passed = passed;
  count = b.count;
  cut = b.cut;
  next = after;
  long = long;
  shows = shows;
  so = b.so;
  at = b.at;
  short_is = b.short_is;
  puts = grows_read start old now (report_text b.rounds) outputs b.puts;
}

-- its records were read
pub on_read : (commands : List Line) (start old now : Outside) (name : List ℕ) (old_reading : Reading) (given : List Record) (bytes : List ℕ) (first next most : ℕ) (st : Stop) (r : Reading) → most + first ≡ next → first < most_records → IsNextCut commands first next → FillsSo old now (cleared old_reading) r most (Ok st) → 0 < length given → length given ≡ first → IsRead start old name old_reading bytes given
    → IsReadUpTo commands start now name r given (record { first = first; next = next; stop = st })
on_read commands start old now name old_reading given bytes first next most st r size low after fills some count read =
    let f = fills start name given (holds_cleared start old name old_reading bytes given read) in
    let all = given ++ r.batch in
    let total : length all ≡ length given + length r.batch = length-append given r.batch in
    let passed = passed_read r.reader f.bytes all (omega (arith, total, some)) f.read.stands in
    let shows = shows_of start now name r f.bytes all most next st passed f.read (omega (arith, total, count, size)) (next_few commands first next low after) f.says in
    record { bytes = f.bytes; reading = f.read.reading; passed = passed; next = after; long = shows.1; shows = shows.0 }

-- there was no memory for it
pub on_unread : (start old now : Outside) (name : List ℕ) (old_reading : Reading) (given : List Record) (bytes : List ℕ) (most : ℕ) (e : NoMemory) (r : Reading) → FillsSo old now (cleared old_reading) r most (Err e) → 0 < length given → IsRead start old name old_reading bytes given → IsReadShort start now name r given
on_unread start old now name old_reading given bytes most e r fills some read =
    let f = fills start name given (holds_cleared start old name old_reading bytes given read) in
    let all = given ++ r.batch in
    let total : length all ≡ length given + length r.batch = length-append given r.batch in
    let passed = passed_first (f.bytes ++ f.more) given r.batch (passed_more f.bytes f.more all (passed_read r.reader f.bytes all (omega (arith, total, some)) f.stands)) in
    record { bytes = f.bytes ++ f.more; reading = f.reading; passed = passed }

-- so the next round is there
pub next_filled : (s : Setting) (start old now : Outside) (name : List ℕ) (run new : Run) (switch : SwitchNow) (lines : List Line) (first : ℕ) (t : Stretch) → s.commands ≡ lines → SameOutputs old now → t.first ≡ first → new.short ≡ run.short → ((bytes : List ℕ) (given : List Record) → IsRead start old name run.reading bytes given → 0 < length given → length given ≡ first → IsReadUpTo lines start now name new.reading given t)
    → IsBetween s start old name run switch first → IsFilled s start now name new switch t
next_filled s start old now name run new switch lines first t same outputs count short reads b =
    let r = subst (λ ls. IsReadUpTo ls start now name new.reading b.given t) (sym same) (reads b.bytes b.given b.read b.some b.count) in record {
      bytes = r.bytes;
      given = b.given;
      rounds = b.rounds;
      histories = b.histories;
      since = since_read start old now b.since outputs;
      reading = r.reading;
      passed = r.passed;
      count = b.count ∙ sym count;
      cut = subst (λ n. IsCut s.commands n) (sym count) b.cut;
      next = r.next;
      long = r.long;
      shows = r.shows;
      so = subst (λ n. AreSoFar s b.given (cuts_within s.commands n) b.rounds b.histories) (sym count) b.so;
      at = b.at;
      short_is = b.short_is ∙ sym short;
      puts = grows_read start old now (report_text b.rounds) outputs b.puts;
    }

-- or the run ends
pub next_unfilled : (s : Setting) (start old now : Outside) (name : List ℕ) (run new : Run) (switch : SwitchNow) (first : ℕ) → SameOutputs old now → ((bytes : List ℕ) (given : List Record) → IsRead start old name run.reading bytes given → 0 < length given → length given ≡ first → IsReadShort start now name new.reading given) → IsBetween s start old name run switch first
    → RunsTrace s start now name end.Memory
next_unfilled s start old now name run new switch first outputs reads b =
    let r = reads b.bytes b.given b.read b.some b.count in
    let so : AreSoFar s b.given (cuts_within s.commands (length b.given)) b.rounds b.histories = subst (λ n. AreSoFar s b.given (cuts_within s.commands n) b.rounds b.histories) (sym b.count) b.so in
    let follows = front_follows s r.bytes b.given b.rounds b.histories r.passed (omega (arith, b.count, b.few)) (subst (λ n. IsCut s.commands n) (sym b.count) b.cut) so in
    runs_so s start now name end.Memory (since_read start old now b.since outputs) r.reading.later
    (inr (inr (breaks_after s start now name (read_to Stopped r.bytes) (report_text b.rounds) (reads_stopped start now name new.reading.source.file r.bytes r.reading) follows (grows_read start old now (report_text b.rounds) outputs b.puts))))

-- ---- after as many records as a trace may have

-- a byte follows
pub next_more : (s : Setting) (start old now : Outside) (name : List ℕ) (run : Run) (switch : SwitchNow) (first : ℕ) (r : Reading) → first ≡ most_records → r.reader ≡ run.reading.reader → SameOutputs old now → PeeksSo old now (cleared run.reading) r stop.Full → IsBetween s start old name run switch first → RunsTrace s start now name end.Records
next_more s start old now name run switch first r full same outputs peeks b =
    let h = b.read in
    let p = peeks start name b.bytes b.given (record { reading = h.reading; stands = h.stands; seen = h.seen; end = h.end }) in
    let bytes = b.bytes ++ p.0 in
    let pass = stands_passed run.reading.reader b.bytes b.given b.some h.stands in
    let rest : List ℕ = run.reading.reader.left ++ p.0 in
    let header = header_more b.bytes p.0 pass.form pass.header in
    let splits : Splits pass.form (drop 24 bytes) b.given rest = splits_more b.bytes p.0 pass.form b.given run.reading.reader.left pass.header pass.splits in
    let some : 0 < length rest = subst (λ q. 0 < length (q.left ++ p.0)) same p.2 in
    let so : AreSoFar s b.given (cuts_within s.commands (length b.given)) b.rounds b.histories = subst (λ n. AreSoFar s b.given (cuts_within s.commands n) b.rounds b.histories) (sym b.count) b.so in
    runs_so s start now name end.Records (since_read start old now b.since outputs) p.1.later
    (inr (ends_so s start now name ending.Records (read_to Stopped bytes) (report_text b.rounds) (reads_stopped start now name r.source.file bytes p.1)
    (record {
      records = b.given;
      at = length bytes - length rest;
      front = front_of pass.form rest;
      stops = stops_at bytes pass.form b.given rest (front_of pass.form rest) header splits refl;
      more = omega (arith, some, splits_shorter pass.form (drop 24 bytes) b.given rest splits, length-drop 24 bytes);
      full = b.count ∙ full;
      tells = tells_within s b.given b.rounds b.histories so;
    })
    (grows_read start old now (report_text b.rounds) outputs b.puts)))

-- none does
pub next_none : (s : Setting) (start old now : Outside) (name : List ℕ) (run : Run) (switch : SwitchNow) (first next : ℕ) (st : Stop) (r : Reading) → first ≡ most_records → r.reader ≡ run.reading.reader → r.batch ≡ [] → (st ≡ stop.Full → ⊥) → IsNextCut s.commands first next → SameOutputs old now → PeeksSo old now (cleared run.reading) r st
    → IsBetween s start old name run switch first → IsFilled s start now name (reading_on run r) switch (record { first = first; next = next; stop = st })
next_none s start old now name run switch first next st r full same none other after outputs peeks b = by st other (peeks start name b.bytes b.given (record { reading = b.read.reading; stands = b.read.stands; seen = b.read.seen; end = b.read.end }))
  where
    all : List Record
    all = b.given ++ r.batch

    all_is : b.given ≡ all
    all_is = sym (ap (λ w. b.given ++ w) none ∙ append-nil b.given)

    total : length all ≡ first
    total = sym (ap length all_is) ∙ b.count

    passed : Passed b.bytes b.given run.reading.reader.left
    passed = stands_passed run.reading.reader b.bytes b.given b.some b.read.stands

    whole : r.reader.left ≡ [] → Splits passed.form (drop 24 b.bytes) all []
    whole e = subst (λ w. Splits passed.form (drop 24 b.bytes) w []) all_is (subst (λ l. Splits passed.form (drop 24 b.bytes) b.given l) (ap (λ q. q.left) (sym same) ∙ e) passed.splits)

    found : r.reader.left ≡ [] → IsPassed b.bytes all
    found e = record { form = passed.form; rest = []; header = passed.header; splits = whole e }

    by : (st : Stop) → (st ≡ stop.Full → ⊥) → Peeks start now name r b.bytes st → IsFilled s start now name (reading_on run r) switch (record { first = first; next = next; stop = st })
    by stop.Full other p = absurd (other refl)
    by stop.End other p = filled s start old now name run switch first next stop.End r b.bytes b outputs after p.2 (found p.0) (p.1, (passed.form, passed.header, whole p.0), omega (arith, total, full)) (omega (arith, total, after.above))
    by stop.Fault other p = filled s start old now name run switch first next stop.Fault r b.bytes b outputs after p.2 (found p.0)
        (p.1, record { at = length b.bytes; stops = record { form = passed.form; rest = []; header = passed.header; splits = whole p.0; place = omega arith; begins = refl }; last = λ e. refl }, omega (arith, total, full))
        (omega (arith, total, after.above))
    by (stop.Bad bad) other p = absurd p

-- ---- what can be done next

pub near_filled : (commands : List Line) (old now : Outside) (run : Run) (from : Reading) (first next most : ℕ) (st : Stop) (r : Reading) → most + first ≡ next → first < most_records → IsNextCut commands first next → IsOpen old from → FillsSo old now from r most (Ok st) → IsNear now (reading_on run r) (record { first = first; next = next; stop = st })
near_filled commands old now run from first next most st r size low after o fills =
    let f = fills o.start o.name o.given o.reads in
    let few = next_few commands first next low after in
    record { low = omega (arith, low); rises = after.above; size = omega (arith, small o.start now o.name r f.bytes (o.given ++ r.batch) most st f.says, size, few); goes = by st f few }
  where
    small : (start now : Outside) (name : List ℕ) (r : Reading) (bytes : List ℕ) (all : List Record) (most : ℕ) (st : Stop) → Says start now name r bytes all most st → length r.batch ≤ most
    small start now name r bytes all most stop.Full says = omega (arith, says)
    small start now name r bytes all most stop.End says = omega (arith, says.0)
    small start now name r bytes all most stop.Fault says = omega (arith, says.0)
    small start now name r bytes all most (stop.Bad bad) says = omega (arith, says.0)

    by : (st : Stop) → StopsSo o.start now o.name r o.given most st → next ≤ most_records → CanRead now (reading_on run r) next st
    by stop.Full f few = (record { start = o.start; name = o.name; given = o.given; reads = record { bytes = f.bytes; read = f.read } }, few)
    by stop.End f few = tt
    by stop.Fault f few = tt
    by (stop.Bad bad) f few = tt

pub near_none : (commands : List Line) (now : Outside) (run : Run) (first next : ℕ) (st : Stop) (r : Reading) → first ≡ most_records → r.batch ≡ [] → (st ≡ stop.Full → ⊥) → IsNextCut commands first next → IsNear now (reading_on run r) (record { first = first; next = next; stop = st })
near_none commands now run first next st r full none other after = record { low = omega (arith, full); rises = after.above; size = omega (arith, ap length none); goes = by st other }
  where
    by : (st : Stop) → (st ≡ stop.Full → ⊥) → CanRead now (reading_on run r) next st
    by stop.Full other = absurd (other refl)
    by stop.End other = tt
    by stop.Fault other = tt
    by (stop.Bad bad) other = tt

-- ---- the cuts of the commands

pub cut_as : (commands lines : List Line) (first next : ℕ) → commands ≡ lines → IsNextCut lines first next → IsNextCut commands first next
cut_as commands lines first next e n = subst (λ ls. IsNextCut ls first next) (sym e) n
