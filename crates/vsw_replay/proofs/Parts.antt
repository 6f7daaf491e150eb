-- Rounds whose records are read one by one.
use Rattle.std.proofs.Common.{◌≡◌, ◌<◌, ◌≤◌, inr, ◌+◌, ◌-◌, ℕ, Bool, None, Result, Ok, Err, IfOk, List, [], ◌∷◌, ◌++◌, length, map, refl, sym, ◌∙◌, ap, subst, arith, append-nil, length-append}
use Rattle.std.specs.Bool.{⊤}
use Rattle.vsw_base.specs.declared.fault.NoMemory.{NoMemory}
use Rattle.vsw_commandfile.specs.declared.line.Line.{Line}
use Rattle.vsw_host.specs.Outside.{Outside, Grows, SameInputs, SameOutputs, DoesPut}
use Rattle.vsw_host.specs.Source.{IsReading}
use Rattle.vsw_pcap.specs.declared.capture.Record.{Record}
use Rattle.vsw_port.specs.declared.event.Event.{Event}
use Rattle.vsw_promise.specs.Jobs.{Setting, cuts_within}
use Rattle.vsw_promise.specs.Ports.{ports_of}
use Rattle.vsw_run.specs.Trace.{most_records}
use Rattle.vsw_report.specs.Print.{head_line, report_text}
use Rattle.vsw_report.specs.Short.{are_short}
use Rattle.vsw_report.specs.declared.round.Round.{Round}
use Rattle.vsw_crew.specs.Switch.{SwitchNow, IsAt}
use Rattle.vsw_reading.specs.Passed.{IsPassed}
use Rattle.vsw_reading.specs.Reads.{IsOpen, IsRead, HasGrown, Says, StopsSo}
use Rattle.vsw_reading.specs.declared.reading.Reading.{Reading}
use Rattle.vsw_reading.specs.declared.reading.Stop.{Stop}
use Rattle.vsw_reading.specs.declared.reading.Stop.TheVariants as stop
use Rattle.vsw_reading.proofs.Open.{FillsSo, cleared, holds_cleared}
use Rattle.vsw_reading.proofs.Passing.{passed_first, passed_more, passed_read}
use Rattle.vsw_reading.proofs.Staying.{read_put, rose_put, whole_put}
use Rattle.vsw_replay.specs.declared.ending.TraceEnd.{TraceEnd}
use Rattle.vsw_replay.specs.declared.ending.TraceEnd.TheVariants as end
use Rattle.vsw_replay.specs.declared.trace.Run.{Run}
use Rattle.vsw_replay.specs.declared.trace.Stretch.{Stretch}
use Rattle.vsw_replay.specs.Private.Begun.{AddsTo, BeginsSo, BegunBy, IsBegun, IsNearBegun, IsOneRead, IsPart, PartNear, PartSo, stopped_by, why_not_of}
use Rattle.vsw_replay.specs.Private.Cut.{IsCut, IsNextCut}
use Rattle.vsw_replay.specs.Private.Going.{CanRead, GoesOn, IsBetween, IsFilled, IsFirst, IsNear, Since, unheaded_of}
use Rattle.vsw_replay.specs.Private.SoFar.{AreSoFar}
use Rattle.vsw_replay.specs.Runs.{RunsTrace}
use Rattle.vsw_replay.proofs.Beginning.{headed}
use Rattle.vsw_replay.proofs.Carried.{none_so_far}
use Rattle.vsw_replay.proofs.Cuts.{within_none}
use Rattle.vsw_replay.proofs.Filling.{next_few, reading_on, shows_of}
use Rattle.vsw_replay.proofs.Growing.{grows_is, grows_then}
use Rattle.vsw_replay.proofs.Owing.{continues_read}
use Rattle.vsw_replay.proofs.Sources.{breaks_after, grows_read, runs_so, since_put, since_read}

-- ---- the rounds that were put

-- the rounds up to a cut were put, whatever was read of the next one
pub record ArePut (s : Setting) (start now : Outside) (short : Bool) (switch : SwitchNow) (first next : ℕ) : Type 0 where
  pub given : List Record
  pub rounds : List Round
  pub histories : List (List Event)
  pub since : Since start now
  pub count : length given ≡ first
  pub low : first < most_records
  pub cut : IsCut s.commands first
  pub after : IsNextCut s.commands first next
  pub so : AreSoFar s given (cuts_within s.commands first) rounds histories
  pub at : IsAt s histories switch
  pub short_is : are_short rounds ≡ short
  pub puts : Grows start.put now.put (report_text rounds)

-- they are while the trace is read on
abbrev put_part : (s : Setting) (start old now : Outside) (name : List ℕ) (run : Run) (switch : SwitchNow) (first next : ℕ) → SameOutputs old now → IsPart s start old name run switch first next → ArePut s start now run.short switch first next
put_part s start old now name run switch first next outputs p = record {
  given = p.given;
  rounds = p.rounds;
  histories = p.histories;
  since = since_read start old now p.since outputs;
  count = p.count;
  low = p.low;
  cut = p.cut;
  after = p.after;
  so = p.so;
  at = p.at;
  short_is = p.short_is;
  puts = grows_read start old now (report_text p.rounds) outputs p.puts;
}

abbrev put_between : (s : Setting) (start old now : Outside) (name : List ℕ) (run : Run) (switch : SwitchNow) (first next : ℕ) → SameOutputs old now → first < most_records → IsNextCut s.commands first next → IsBetween s start old name run switch first → ArePut s start now run.short switch first next
put_between s start old now name run switch first next outputs low after b = record {
  given = b.given;
  rounds = b.rounds;
  histories = b.histories;
  since = since_read start old now b.since outputs;
  count = b.count;
  low = low;
  cut = b.cut;
  after = after;
  so = b.so;
  at = b.at;
  short_is = b.short_is;
  puts = grows_read start old now (report_text b.rounds) outputs b.puts;
}

-- none was put before the first one, but the head line
abbrev put_none : (s : Setting) (start old now : Outside) (name : List ℕ) (run : Run) (switch : SwitchNow) (t : Stretch) (most : ℕ) → Since start now → Grows start.put now.put head_line → IsFirst s start old name run switch t most → ArePut s start now run.short switch t.first t.next
put_none s start old now name run switch t most since put f = record {
  given = [];
  rounds = [];
  histories = map (λ p. []) (ports_of s.policy);
  since = since;
  count = sym f.first;
  low = omega (arith, f.first);
  cut = inr (0, f.first);
  after = subst (λ n. IsNextCut s.commands n t.next) (sym f.first) f.next;
  so = subst (λ c. AreSoFar s [] c [] (map (λ p. []) (ports_of s.policy))) (sym (ap (cuts_within s.commands) f.first ∙ within_none s.commands)) (none_so_far s f.at.some f.at.few);
  at = f.at;
  short_is = sym f.short_is;
  puts = grows_is start.put now.put head_line (report_text []) (sym (append-nil head_line)) put;
}

-- want of memory ends the run
put_stops : (s : Setting) (start now : Outside) (name : List ℕ) (short : Bool) (switch : SwitchNow) (first next : ℕ) (file : ℕ) (bytes : List ℕ) (batch : List Record) → (p : ArePut s start now short switch first next) → IsReading start now name file bytes → IsPassed bytes (ArePut.given p ++ batch) → RunsTrace s start now name end.Memory
put_stops s start now name short switch first next file bytes batch p reading passed =
    let c = continues_read s start now name file bytes p.given p.rounds p.histories first reading (passed_first bytes p.given batch passed) p.count (omega (arith, p.low)) p.cut p.so in
    runs_so s start now name end.Memory p.since reading.later (inr (inr (breaks_after s start now name c.trace (report_text p.rounds) c.reads c.follows p.puts)))

-- ---- why the reading stopped

-- where more are asked for, another reason is the same
says_more : (start now : Outside) (name : List ℕ) (r : Reading) (bytes : List ℕ) (all : List Record) (most more : ℕ) (st : Stop) → most ≤ more → (st ≡ stop.Full → ⊥) → Says start now name r bytes all most st → Says start now name r bytes all more st
says_more start now name r bytes all most more stop.Full le other says = absurd (other refl)
says_more start now name r bytes all most more stop.End le other says = (omega (arith, says.0, le), says.1, says.2)
says_more start now name r bytes all most more stop.Fault le other says = (omega (arith, says.0, le), says.1, says.2)
says_more start now name r bytes all most more (stop.Bad bad) le other says = (omega (arith, says.0, le), says.1, says.2)

says_put : (start old now : Outside) (name : List ℕ) (r : Reading) (bytes : List ℕ) (all : List Record) (most : ℕ) (st : Stop) → SameInputs old now → Says start old name r bytes all most st → Says start now name r bytes all most st
says_put start old now name r bytes all most stop.Full same says = says
says_put start old now name r bytes all most stop.End same says = (says.0, whole_put start old now name bytes same says.1, says.2)
says_put start old now name r bytes all most stop.Fault same says = (says.0, rose_put start old now same says.1, says.2)
says_put start old now name r bytes all most (stop.Bad bad) same says = says

-- ---- what a reading comes to

-- the round was read as far as it goes
whole_by : (s : Setting) (start now : Outside) (name : List ℕ) (run : Run) (switch : SwitchNow) (first next : ℕ) (st : Stop) (bytes : List ℕ) → (p : ArePut s start now run.short switch first next) → IsRead start now name run.reading bytes (ArePut.given p ++ run.reading.batch) → IsPassed bytes (ArePut.given p ++ run.reading.batch)
    → Says start now name run.reading bytes (ArePut.given p ++ run.reading.batch) (next - first) st → IsFilled s start now name run switch (record { first = first; next = next; stop = st })
whole_by s start now name run switch first next st bytes p read passed says =
    let all = p.given ++ run.reading.batch in
    let shows = shows_of start now name run.reading bytes all (next - first) next st passed read (omega (arith, length-append p.given run.reading.batch, p.count, p.after.above)) (next_few s.commands first next p.low p.after) says in record {
      bytes = bytes;
      given = p.given;
      rounds = p.rounds;
      histories = p.histories;
      since = p.since;
      reading = read.reading;
      passed = passed;
      count = p.count;
      cut = p.cut;
      next = p.after;
      long = shows.1;
      shows = shows.0;
      so = p.so;
      at = p.at;
      short_is = p.short_is;
      puts = p.puts;
    }

part_by : (s : Setting) (start now : Outside) (name : List ℕ) (run : Run) (switch : SwitchNow) (first next : ℕ) (bytes : List ℕ) → (p : ArePut s start now run.short switch first next) → IsRead start now name run.reading bytes (ArePut.given p ++ run.reading.batch) → 0 < length run.reading.batch → IsPart s start now name run switch first next
part_by s start now name run switch first next bytes p read some = record {
  bytes = bytes;
  given = p.given;
  rounds = p.rounds;
  histories = p.histories;
  since = p.since;
  read = read;
  some = some;
  count = p.count;
  low = p.low;
  cut = p.cut;
  after = p.after;
  so = p.so;
  at = p.at;
  short_is = p.short_is;
  puts = p.puts;
}

-- so many records or a reason why there are no more: further ones may follow, or none does
begun_by : (s : Setting) (start now : Outside) (name : List ℕ) (run : Run) (switch : SwitchNow) (first next most : ℕ) (st : Stop) → (p : ArePut s start now run.short switch first next) → (f : StopsSo start now name run.reading (ArePut.given p) most st) → IsPassed (StopsSo.bytes f) (ArePut.given p ++ run.reading.batch) → 0 < most → first + most ≤ next
    → BegunBy s start now name run switch (record { first = first; next = next; stop = st }) st
begun_by s start now name run switch first next most stop.Full p f passed some within = part_by s start now name run switch first next f.bytes p f.read (omega (arith, f.says, some))
begun_by s start now name run switch first next most stop.End p f passed some within =
    whole_by s start now name run switch first next stop.End f.bytes p f.read passed (says_more start now name run.reading f.bytes (p.given ++ run.reading.batch) most (next - first) stop.End (omega (arith, within)) (λ e. cc e) f.says)
begun_by s start now name run switch first next most stop.Fault p f passed some within =
    whole_by s start now name run switch first next stop.Fault f.bytes p f.read passed (says_more start now name run.reading f.bytes (p.given ++ run.reading.batch) most (next - first) stop.Fault (omega (arith, within)) (λ e. cc e) f.says)
begun_by s start now name run switch first next most (stop.Bad bad) p f passed some within =
    whole_by s start now name run switch first next (stop.Bad bad) f.bytes p f.read passed (says_more start now name run.reading f.bytes (p.given ++ run.reading.batch) most (next - first) (stop.Bad bad) (omega (arith, within)) (λ e. cc e) f.says)

-- ---- the first record of a round

-- of the first round, once the head line was put
pub head_part : (s : Setting) (start old now : Outside) (name : List ℕ) (run : Run) (switch : SwitchNow) (t : Stretch) (u : ⊤) → unheaded_of t.stop run.reading.seen ≡ None → DoesPut old now head_line (Ok u) → IsFirst s start old name run switch t 1 → IsBegun s start now name run switch t
head_part s start old now name run switch t u e d f =
    let q = f.stops in
    let r = run.reading in
    let passed = headed start old name r q.bytes 1 t.stop (omega arith) q.read q.says e in
    let p = put_none s start old now name run switch t 1 (since_put start old now head_line (Ok u) f.since d) (grows_then start.put old.put now.put [] head_line f.puts d.told) f in
    let stops : StopsSo start now name r [] 1 t.stop = record { bytes = q.bytes; read = read_put start old now name r q.bytes r.batch d.inputs q.read; says = says_put start old now name r q.bytes r.batch 1 t.stop d.inputs q.says } in
    begun_by s start now name run switch t.first t.next 1 t.stop p stops passed (omega arith) (omega (arith, f.first, f.next.above))

-- of another one
pub between_begun : (s : Setting) (start old now : Outside) (name : List ℕ) (run : Run) (switch : SwitchNow) (lines : List Line) (first next : ℕ) (st : Stop) (r : Reading) → s.commands ≡ lines → SameOutputs old now → first < most_records → IsNextCut lines first next → FillsSo old now (cleared run.reading) r 1 (Ok st) → IsBetween s start old name run switch first
    → IsBegun s start now name (reading_on run r) switch (record { first = first; next = next; stop = st })
between_begun s start old now name run switch lines first next st r same outputs low after fills b =
    let f = fills start name b.given (holds_cleared start old name run.reading b.bytes b.given b.read) in
    let all = b.given ++ r.batch in
    let passed = passed_read r.reader f.bytes all (omega (arith, length-append b.given r.batch, b.some)) f.read.stands in
    let p = put_between s start old now name run switch first next outputs low (subst (λ ls. IsNextCut ls first next) (sym same) after) b in
    begun_by s start now name (reading_on run r) switch first next 1 st p f passed (omega arith) (omega (arith, after.above))

-- behind as many records as a trace may have none was read
full_past : (now : Outside) (run : Run) (t : Stretch) → t.first ≡ most_records → IsNear now run t → t.stop ≡ stop.Full → ⊥
full_past now run t last near full = let can = subst (CanRead now run t.next) full near.goes in omega (arith, last, near.rises, can.1)

begun_stopped : (s : Setting) (start now : Outside) (name : List ℕ) (run : Run) (switch : SwitchNow) (t : Stretch) (st : Stop) → (st ≡ stop.Full → ⊥) → IsFilled s start now name run switch t → BegunBy s start now name run switch t st
begun_stopped s start now name run switch t stop.Full other f = absurd (other refl)
begun_stopped s start now name run switch t stop.End other f = f
begun_stopped s start now name run switch t stop.Fault other f = f
begun_stopped s start now name run switch t (stop.Bad bad) other f = f

pub past_begins : (s : Setting) (start now : Outside) (name : List ℕ) (run : Run) (switch : SwitchNow) (r : Result Stretch TraceEnd) → IfOk r (λ t. IsNear now run t) → IfOk r (λ t. t.first ≡ most_records) → GoesOn s start now name run switch r → BeginsSo s start now name run switch r
past_begins s start now name run switch (Ok t) near last goes = begun_stopped s start now name run switch t t.stop (full_past now run t last near) goes
past_begins s start now name run switch (Err e) near last goes = goes

pub firsts_are : (r : Result Stretch TraceEnd) (first : ℕ) → first ≡ most_records → IfOk r (λ t. t.first ≡ first) → IfOk r (λ t. t.first ≡ most_records)
firsts_are (Ok t) first last e = e ∙ last
firsts_are (Err x) first last e = tt

one_by : (st : Stop) (n : ℕ) → (st ≡ stop.Full → n ≡ 1) → IsOneRead st n
one_by stop.Full n one = one refl
one_by stop.End n one = tt
one_by stop.Fault n one = tt
one_by (stop.Bad bad) n one = tt

pub past_near : (now : Outside) (run : Run) (r : Result Stretch TraceEnd) → IfOk r (λ t. IsNear now run t) → IfOk r (λ t. t.first ≡ most_records) → IfOk r (λ t. IsNearBegun now run t)
past_near now run (Ok t) near last = record { near = near; one = one_by t.stop (length run.reading.batch) (λ full. absurd (full_past now run t last near full)) }
past_near now run (Err e) near last = tt

-- ---- what can be done next

small : (start now : Outside) (name : List ℕ) (r : Reading) (bytes : List ℕ) (all : List Record) (most : ℕ) (st : Stop) → Says start now name r bytes all most st → length r.batch ≤ most
small start now name r bytes all most stop.Full says = omega (arith, says)
small start now name r bytes all most stop.End says = omega (arith, says.0)
small start now name r bytes all most stop.Fault says = omega (arith, says.0)
small start now name r bytes all most (stop.Bad bad) says = omega (arith, says.0)

can_read : (now : Outside) (run : Run) (next most : ℕ) (st : Stop) (start : Outside) (name : List ℕ) (given : List Record) → next ≤ most_records → StopsSo start now name run.reading given most st → CanRead now run next st
can_read now run next most stop.Full start name given few f = (record { start = start; name = name; given = given; reads = record { bytes = f.bytes; read = f.read } }, few)
can_read now run next most stop.End start name given few f = tt
can_read now run next most stop.Fault start name given few f = tt
can_read now run next most (stop.Bad bad) start name given few f = tt

-- records were read up to some count
pub near_read : (old now : Outside) (run : Run) (first next most : ℕ) (st : Stop) (from r : Reading) → first < next → next ≤ most_records → first + most ≤ next → FillsSo old now from r most (Ok st) → IsOpen old from → IsNear now (reading_on run r) (record { first = first; next = next; stop = st })
near_read old now run first next most st from r rises few within fills o =
    let f = fills o.start o.name o.given o.reads in record {
      low = omega (arith, rises, few);
      rises = rises;
      size = omega (arith, small o.start now o.name r f.bytes (o.given ++ r.batch) most st f.says, within, few);
      goes = can_read now (reading_on run r) next most st o.start o.name o.given few f;
    }

full_says : (start now : Outside) (name : List ℕ) (r : Reading) (bytes : List ℕ) (all : List Record) (most : ℕ) (st : Stop) → Says start now name r bytes all most st → st ≡ stop.Full → length r.batch ≡ most
full_says start now name r bytes all most stop.Full says e = says
full_says start now name r bytes all most stop.End says e = absurd (cc e)
full_says start now name r bytes all most stop.Fault says e = absurd (cc e)
full_says start now name r bytes all most (stop.Bad bad) says e = absurd (cc e)

-- and as many as were asked for
pub size_read : (old now : Outside) (most : ℕ) (st : Stop) (from r : Reading) → FillsSo old now from r most (Ok st) → IsOpen old from → st ≡ stop.Full → length r.batch ≡ most
size_read old now most st from r fills o full = let f = fills o.start o.name o.given o.reads in full_says o.start now o.name r f.bytes (o.given ++ r.batch) most st f.says full

-- or fewer
pub less_read : (old now : Outside) (most : ℕ) (st : Stop) (from r : Reading) → FillsSo old now from r most (Ok st) → IsOpen old from → (st ≡ stop.Full → ⊥) → length r.batch < most
less_read old now most st from r fills o other = let f = fills o.start o.name o.given o.reads in by st other f.says
  where
    by : (st : Stop) → (st ≡ stop.Full → ⊥) → Says o.start now o.name r (fills o.start o.name o.given o.reads).bytes (o.given ++ r.batch) most st → length r.batch < most
    by stop.Full other says = absurd (other refl)
    by stop.End other says = says.0
    by stop.Fault other says = says.0
    by (stop.Bad bad) other says = says.0

pub near_begun : (old now : Outside) (run : Run) (first next : ℕ) (st : Stop) (from r : Reading) → first < next → next ≤ most_records → FillsSo old now from r 1 (Ok st) → IsOpen old from → IsNearBegun now (reading_on run r) (record { first = first; next = next; stop = st })
near_begun old now run first next st from r rises few fills o = record {
  near = near_read old now run first next 1 st from r rises few (omega (arith, rises)) fills o;
  one = one_by st (length r.batch) (size_read old now 1 st from r fills o);
}

-- ---- one record more of a round

-- the round was whole
pub part_whole : (s : Setting) (start now : Outside) (name : List ℕ) (run : Run) (switch : SwitchNow) (first next : ℕ) → first + length run.reading.batch ≡ next → IsPart s start now name run switch first next → IsFilled s start now name run switch (record { first = first; next = next; stop = stop.Full })
part_whole s start now name run switch first next whole q =
    let p = put_part s start now now name run switch first next (record { put = refl; complained = refl; put_faults = refl; complain_faults = refl }) q in
    let passed = passed_read run.reading.reader q.bytes (q.given ++ run.reading.batch) (omega (arith, length-append q.given run.reading.batch, q.some)) q.read.stands in
    whole_by s start now name run switch first next stop.Full q.bytes p q.read passed (omega (arith, whole))

-- so many records or a reason why there are no more
pub part_read : (s : Setting) (start old now : Outside) (name : List ℕ) (run : Run) (switch : SwitchNow) (first next most : ℕ) (st : Stop) (r : Reading) → SameOutputs old now → HasGrown run.reading.batch r.batch → 0 < most → first + most ≤ next → FillsSo old now run.reading r most (Ok st) → IsPart s start old name run switch first next
    → BegunBy s start now name (reading_on run r) switch (record { first = first; next = next; stop = st }) st
part_read s start old now name run switch first next most st r outputs grown some within fills q =
    let f = fills start name q.given (record { bytes = q.bytes; read = q.read }) in
    let all = q.given ++ r.batch in
    let size : length r.batch ≡ length run.reading.batch + length grown.more = ap length grown.batch ∙ length-append run.reading.batch grown.more in
    let passed = passed_read r.reader f.bytes all (omega (arith, length-append q.given r.batch, size, q.some)) f.read.stands in
    begun_by s start now name (reading_on run r) switch first next most st (put_part s start old now name run switch first next outputs q) f passed some within

-- all of the round that was asked for, or a reason why there are no more
pub part_filled : (s : Setting) (start old now : Outside) (name : List ℕ) (run : Run) (switch : SwitchNow) (first next : ℕ) (st : Stop) (r : Reading) → SameOutputs old now → HasGrown run.reading.batch r.batch → FillsSo old now run.reading r (next - first) (Ok st) → IsPart s start old name run switch first next
    → IsFilled s start now name (reading_on run r) switch (record { first = first; next = next; stop = st })
part_filled s start old now name run switch first next st r outputs grown fills q =
    let f = fills start name q.given (record { bytes = q.bytes; read = q.read }) in
    let all = q.given ++ r.batch in
    let size : length r.batch ≡ length run.reading.batch + length grown.more = ap length grown.batch ∙ length-append run.reading.batch grown.more in
    let passed = passed_read r.reader f.bytes all (omega (arith, length-append q.given r.batch, size, q.some)) f.read.stands in
    whole_by s start now name (reading_on run r) switch first next st f.bytes (put_part s start old now name run switch first next outputs q) f.read passed f.says

-- there was no memory for one
pub part_unread : (s : Setting) (start old now : Outside) (name : List ℕ) (run : Run) (switch : SwitchNow) (first next most : ℕ) (e : NoMemory) (r : Reading) → SameOutputs old now → HasGrown run.reading.batch r.batch → FillsSo old now run.reading r most (Err e) → IsPart s start old name run switch first next → RunsTrace s start now name end.Memory
part_unread s start old now name run switch first next most e r outputs grown fills q =
    let f = fills start name q.given (record { bytes = q.bytes; read = q.read }) in
    let all = q.given ++ r.batch in
    let size : length r.batch ≡ length run.reading.batch + length grown.more = ap length grown.batch ∙ length-append run.reading.batch grown.more in
    let passed = passed_more f.bytes f.more all (passed_read r.reader f.bytes all (omega (arith, length-append q.given r.batch, size, q.some)) f.stands) in
    put_stops s start now name run.short switch first next r.source.file (f.bytes ++ f.more) r.batch (put_part s start old now name run switch first next outputs q) f.reading passed

-- there was no memory for what comes before
pub part_stops : (s : Setting) (start now : Outside) (name : List ℕ) (run : Run) (switch : SwitchNow) (first next : ℕ) → IsPart s start now name run switch first next → RunsTrace s start now name end.Memory
part_stops s start now name run switch first next q =
    let p = put_part s start now now name run switch first next (record { put = refl; complained = refl; put_faults = refl; complain_faults = refl }) q in
    let passed = passed_read run.reading.reader q.bytes (q.given ++ run.reading.batch) (omega (arith, length-append q.given run.reading.batch, q.some)) q.read.stands in
    put_stops s start now name run.short switch first next run.reading.source.file q.bytes run.reading.batch p q.read.reading passed

-- the round with another reason is as it was read
pub begun_filled : (s : Setting) (start now : Outside) (name : List ℕ) (run : Run) (switch : SwitchNow) (t : Stretch) (st : Stop) → (st ≡ stop.Full → ⊥) → BegunBy s start now name run switch t st → IsFilled s start now name run switch t
begun_filled s start now name run switch t stop.Full other b = absurd (other refl)
begun_filled s start now name run switch t stop.End other b = b
begun_filled s start now name run switch t stop.Fault other b = b
begun_filled s start now name run switch t (stop.Bad bad) other b = b

-- one came behind those of the batch
pub one_more : (old new : List Record) → HasGrown old new → length new ≡ length old + 1 → (last : Record) × (new ≡ old ++ last ∷ [])
one_more old new g size = by g.more g.batch
  where
    by : (more : List Record) → new ≡ old ++ more → (last : Record) × (new ≡ old ++ last ∷ [])
    by [] e = absurd (omega (arith, size, ap length e ∙ length-append old []))
    by (last ∷ []) e = (last, e)
    by (last ∷ next ∷ more) e = absurd (omega (arith, size, ap length e ∙ length-append old (last ∷ next ∷ more)))

-- or none
pub none_more : (old new : List Record) → HasGrown old new → length new < length old + 1 → new ≡ old
none_more old new g size = by g.more g.batch
  where
    by : (more : List Record) → new ≡ old ++ more → new ≡ old
    by [] e = e ∙ append-nil old
    by (last ∷ more) e = absurd (omega (arith, size, ap length e ∙ length-append old (last ∷ more)))

-- ---- one record more, by what a reading comes to

pub one_read : (s : Setting) (start now : Outside) (name : List ℕ) (run : Run) (switch : SwitchNow) (t : Stretch) (st : Stop) → BegunBy s start now name run switch (stopped_by t st) st → PartSo s start now name run switch t (Ok (why_not_of st))
one_read s start now name run switch t stop.Full b = b
one_read s start now name run switch t stop.End b = b
one_read s start now name run switch t stop.Fault b = b
one_read s start now name run switch t (stop.Bad bad) b = b

pub one_near : (old now : Outside) (run : Run) (t : Stretch) (held : ℕ) (st : Stop) (from r : Reading) → t.stop ≡ stop.Full → t.first < t.next → t.next ≤ most_records → t.first + (held + 1) ≤ t.next → FillsSo old now from r (held + 1) (Ok st) → IsOpen old from → PartNear now (reading_on run r) t (why_not_of st)
one_near old now run t held stop.Full from r full rises few within fills o =
    let near = near_read old now run t.first t.next (held + 1) stop.Full from r rises few within fills o in
    let size = size_read old now (held + 1) stop.Full from r fills o refl in
    (record { low = near.low; rises = near.rises; size = near.size; goes = subst (CanRead now (reading_on run r) t.next) (sym full) near.goes }, omega (arith, size, within))
one_near old now run t held stop.End from r full rises few within fills o = near_read old now run t.first t.next (held + 1) stop.End from r rises few within fills o
one_near old now run t held stop.Fault from r full rises few within fills o = near_read old now run t.first t.next (held + 1) stop.Fault from r rises few within fills o
one_near old now run t held (stop.Bad bad) from r full rises few within fills o = near_read old now run t.first t.next (held + 1) (stop.Bad bad) from r rises few within fills o

pub one_adds : (old now : Outside) (held : ℕ) (st : Stop) (from r : Reading) → held ≡ length from.batch → HasGrown from.batch r.batch → FillsSo old now from r (held + 1) (Ok st) → IsOpen old from → AddsTo from.batch r.batch (why_not_of st)
one_adds old now held stop.Full from r is grown fills o = one_more from.batch r.batch grown (omega (arith, is, size_read old now (held + 1) stop.Full from r fills o refl))
one_adds old now held stop.End from r is grown fills o = none_more from.batch r.batch grown (omega (arith, is, less_read old now (held + 1) stop.End from r fills o (λ e. cc e)))
one_adds old now held stop.Fault from r is grown fills o = none_more from.batch r.batch grown (omega (arith, is, less_read old now (held + 1) stop.Fault from r fills o (λ e. cc e)))
one_adds old now held (stop.Bad bad) from r is grown fills o = none_more from.batch r.batch grown (omega (arith, is, less_read old now (held + 1) (stop.Bad bad) from r fills o (λ e. cc e)))

-- the round that was begun goes no further
pub rest_none : (s : Setting) (start now : Outside) (name : List ℕ) (run : Run) (switch : SwitchNow) (t : Stretch) (st : Stop) → t.stop ≡ st → (t.stop ≡ stop.Full → t.next ≤ t.first + 1) → t.first < t.next → IsOneRead st (length run.reading.batch) → BegunBy s start now name run switch t st → IsFilled s start now name run switch (stopped_by t st)
rest_none s start now name run switch t stop.Full e last rises one b = part_whole s start now name run switch t.first t.next (omega (arith, one, last e, rises)) b
rest_none s start now name run switch t stop.End e last rises one b = subst (λ w. IsFilled s start now name run switch (stopped_by t w)) e b
rest_none s start now name run switch t stop.Fault e last rises one b = subst (λ w. IsFilled s start now name run switch (stopped_by t w)) e b
rest_none s start now name run switch t (stop.Bad bad) e last rises one b = subst (λ w. IsFilled s start now name run switch (stopped_by t w)) e b

-- one record was read of it, and further ones may follow
pub begun_part : (s : Setting) (start now : Outside) (name : List ℕ) (run : Run) (switch : SwitchNow) (t : Stretch) → t.stop ≡ stop.Full → IsBegun s start now name run switch t → IsPart s start now name run switch t.first t.next
begun_part s start now name run switch t full b = subst (BegunBy s start now name run switch t) full b

-- a put changes nothing of it
pub same_near : (old now : Outside) (run : Run) (first : Stretch) (r : Result Stretch TraceEnd) → IsNearBegun old run first → IfOk r (λ t. IsNear now run t) → IfOk r (λ t. t ≡ first) → IfOk r (λ t. IsNearBegun now run t)
same_near old now run first (Ok t) begun kept same = record { near = kept; one = subst (λ w. IsOneRead w.stop (length run.reading.batch)) (sym same) begun.one }
same_near old now run first (Err e) begun kept same = tt
