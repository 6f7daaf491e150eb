-- A run that reads ahead: a round goes out, the text of the one before is put, the next one is read, and the round is done.
use Rattle.std.proofs.Common.{◌≡◌, ◌<◌, ◌≤◌, inr, ◌||◌, ◌&&◌, ◌==◌, not, ℕ, Bool, true, false, Ok, Err, List, [], ◌∷◌, ◌++◌, length, take, refl, sym, ◌∙◌, ap, subst, arith, append-nil, length-append}
use Rattle.std.specs.Bool.{⊤}
use Rattle.std.specs.List.{flat_map}
use Rattle.std.proofs.Math.Seq.{take-append_seam}
use Rattle.std.proofs.lemmas.Grind.{common_steps}
use Rattle.vsw_commandfile.specs.declared.line.Line.{Line}
use Rattle.vsw_port.specs.declared.event.Event.{Event}
use Rattle.vsw_host.specs.Outside.{Outside, Grows, SameInputs, SameOutputs, DoesPut}
use Rattle.vsw_host.specs.Source.{IsReading}
use Rattle.vsw_host.specs.declared.host.Failed.{Failed}
use Rattle.vsw_pcap.specs.declared.capture.Record.{Record}
use Rattle.vsw_promise.specs.Jobs.{Setting, cuts_within}
use Rattle.vsw_run.specs.Trace.{most_records, Stopped}
use Rattle.vsw_report.specs.Print.{round_text, report_text}
use Rattle.vsw_report.specs.Short.{is_short_round}
use Rattle.vsw_report.specs.declared.round.Round.{Round}
use Rattle.vsw_crew.specs.Round.{TellsRound}
use Rattle.vsw_crew.specs.Switch.{SwitchNow}
use Rattle.vsw_reading.specs.Passed.{IsPassed}
use Rattle.vsw_reading.specs.declared.reading.Reading.{Reading}
use Rattle.vsw_reading.specs.declared.reading.Stop.TheVariants as stop
use Rattle.vsw_reading.specs.Reads.{IsRead}
use Rattle.vsw_replay.specs.declared.ending.TraceEnd.TheVariants as end
use Rattle.vsw_replay.specs.declared.trace.Run.{Run}
use Rattle.vsw_replay.specs.declared.trace.Stretch.{Stretch}
use Rattle.vsw_replay.specs.Private.Ahead.{IsOwing, IsAhead, none_left, with_batch}
use Rattle.vsw_replay.specs.Private.Cut.{is_named_by, IsCut, IsNextCut}
use Rattle.vsw_replay.specs.Private.Going.{IsAsLong, IsFilled, Since, ShowsStop}
use Rattle.vsw_replay.specs.Private.Next.{IsReadShort, IsReadUpTo, in_batch}
use Rattle.vsw_replay.specs.Private.SoFar.{AreSoFar}
use Rattle.vsw_replay.specs.Runs.{RunsTrace}
use Rattle.vsw_reading.proofs.Passing.{passed_first}
use Rattle.vsw_reading.proofs.Staying.{reading_put}
use Rattle.vsw_replay.proofs.Completing.{report_append, front_follows}
use Rattle.vsw_replay.proofs.Growing.{grows_is}
use Rattle.vsw_replay.proofs.Putting.{Continues, shows_few, fault_ends, put_by}
use Rattle.vsw_replay.proofs.Sources.{since_read, grows_read, shows_put, runs_so, breaks_off, breaks_after}
use Rattle.vsw_run.proofs.ReadTo.{read_to, reads_stopped}
use Rattle.vsw_replay.proofs.Turning.{rounds_run}

-- ---- nothing is owed

pub owing_filled : (s : Setting) (start now : Outside) (name : List ℕ) (run : Run) (switch : SwitchNow) (left : List Round → Type 0) (t : Stretch) → left [] → IsFilled s start now name run switch t → IsOwing s start now name run switch left t
owing_filled s start now name run switch left t none f = record {
  given = f.given;
  rounds = f.rounds;
  owing = [];
  histories = f.histories;
  since = f.since;
  read = record { bytes = f.bytes; reading = f.reading; passed = f.passed; next = f.next; long = f.long; shows = f.shows };
  count = f.count;
  cut = f.cut;
  so = subst (λ rs. AreSoFar s f.given (cuts_within s.commands t.first) rs f.histories) (sym (append-nil f.rounds)) f.so;
  at = f.at;
  short_is = f.short_is;
  puts = f.puts;
  are_left = none;
}

-- where none is owed the rounds are those that were put
put_all : (s : Setting) (given : List Record) (cuts : List ℕ) (rounds owing : List Round) (hs : List (List Event)) → owing ≡ [] → AreSoFar s given cuts (rounds ++ owing) hs → AreSoFar s given cuts rounds hs
put_all s given cuts rounds owing hs none so = subst (λ rs. AreSoFar s given cuts rs hs) (ap (λ w. rounds ++ w) none ∙ append-nil rounds) so

pub filled_owing : (s : Setting) (start now : Outside) (name : List ℕ) (run : Run) (switch : SwitchNow) (t : Stretch) → IsOwing s start now name run switch none_left t → IsFilled s start now name run switch t
filled_owing s start now name run switch t o = record {
  bytes = o.read.bytes;
  given = o.given;
  rounds = o.rounds;
  histories = o.histories;
  since = o.since;
  reading = o.read.reading;
  passed = o.read.passed;
  count = o.count;
  cut = o.cut;
  next = o.read.next;
  long = o.read.long;
  shows = o.read.shows;
  so = put_all s o.given (cuts_within s.commands t.first) o.rounds o.owing o.histories o.are_left o.so;
  at = o.at;
  short_is = o.short_is;
  puts = o.puts;
}

-- ---- want of memory

-- some texts of rounds that were run were put
stops_behind : (s : Setting) (start now : Outside) (name : List ℕ) (rounds owing : List Round) → Since start now → start.input_faults ≤ now.input_faults → Continues s start now name (report_text (rounds ++ owing)) → Grows start.put now.put (report_text rounds) → RunsTrace s start now name end.Memory
stops_behind s start now name rounds owing since later c put =
    let n : ℕ = length (report_text rounds) in
    let front : report_text rounds ≡ take n (report_text (rounds ++ owing)) = sym (ap (take n) (report_append rounds owing) ∙ take-append_seam (report_text rounds) (flat_map round_text owing)) in
    runs_so s start now name end.Memory since later (inr (inr (breaks_off s start now name c.trace (report_text (rounds ++ owing)) n c.reads c.follows (grows_is start.put now.put (report_text rounds) (take n (report_text (rounds ++ owing))) front put))))

-- rounds of records that were read go on as long as the trace does
pub continues_read : (s : Setting) (start now : Outside) (name : List ℕ) (file : ℕ) (bytes : List ℕ) (given : List Record) (rounds : List Round) (hs : List (List Event)) (first : ℕ) → IsReading start now name file bytes → IsPassed bytes given → length given ≡ first → first ≤ most_records → IsCut s.commands first → AreSoFar s given (cuts_within s.commands first) rounds hs
    → Continues s start now name (report_text rounds)
continues_read s start now name file bytes given rounds hs first reading passed count few cut so = record {
  trace = read_to Stopped bytes;
  reads = reads_stopped start now name file bytes reading;
  follows = front_follows s bytes given rounds hs passed (omega (arith, count, few)) (subst (λ n. IsCut s.commands n) (sym count) cut) (subst (λ n. AreSoFar s given (cuts_within s.commands n) rounds hs) (sym count) so);
}

owing_low : (s : Setting) (start now : Outside) (name : List ℕ) (run : Run) (switch : SwitchNow) (left : List Round → Type 0) (t : Stretch) → IsOwing s start now name run switch left t → t.first ≤ most_records
owing_low s start now name run switch left t o = omega (arith, shows_few start now name run.reading o.read.bytes (o.given ++ run.reading.batch) t.next t.stop o.read.long o.read.shows, length-append o.given run.reading.batch, o.count)

owing_goes_on : (s : Setting) (start old now : Outside) (name : List ℕ) (run : Run) (switch : SwitchNow) (left : List Round → Type 0) (t : Stretch) → SameInputs old now → (o : IsOwing s start old name run switch left t) → Continues s start now name (report_text (IsOwing.rounds o ++ IsOwing.owing o))
owing_goes_on s start old now name run switch left t inputs o =
    continues_read s start now name run.reading.source.file o.read.bytes o.given (o.rounds ++ o.owing) o.histories t.first (reading_put start old now name run.reading.source.file o.read.bytes inputs o.read.reading) (passed_first o.read.bytes o.given run.reading.batch o.read.passed) o.count
    (owing_low s start old name run switch left t o) o.cut o.so

-- before a round went out
pub owing_stops : (s : Setting) (start now : Outside) (name : List ℕ) (run : Run) (switch : SwitchNow) (left : List Round → Type 0) (t : Stretch) → IsOwing s start now name run switch left t → RunsTrace s start now name end.Memory
owing_stops s start now name run switch left t o =
    stops_behind s start now name o.rounds o.owing o.since o.read.reading.later
    (owing_goes_on s start now now name run switch left t (record { inputs = refl; opens = refl; input_faults = refl }) o)
    o.puts

-- while one is out, which is lost
pub ahead_stops : (s : Setting) (start now : Outside) (name : List ℕ) (run : Run) (switch : SwitchNow) (first : ℕ) (packets : List Record) (t : Stretch) → IsAhead s start now name run switch first packets t → RunsTrace s start now name end.Memory
ahead_stops s start now name run switch first packets t a =
    let passed = passed_first a.read.bytes a.given packets (passed_first a.read.bytes (a.given ++ packets) run.reading.batch a.read.passed) in
    let c = continues_read s start now name run.reading.source.file a.read.bytes a.given a.rounds a.histories first a.read.reading passed a.before (omega (arith, a.next.above, a.low)) a.cut a.so in
    runs_so s start now name end.Memory a.since a.read.reading.later (inr (inr (breaks_after s start now name c.trace (report_text a.rounds) c.reads c.follows a.puts)))

-- ---- the text that is owed

-- what was read stays, whatever is put
read_on_put : (commands : List Line) (start old now : Outside) (name : List ℕ) (r : Reading) (given : List Record) (t : Stretch) → SameInputs old now → IsReadUpTo commands start old name r given t → IsReadUpTo commands start now name r given t
read_on_put commands start old now name r given t inputs o = record {
  bytes = o.bytes;
  reading = reading_put start old now name r.source.file o.bytes inputs o.reading;
  passed = o.passed;
  next = o.next;
  long = o.long;
  shows = shows_put start old now name r o.bytes (given ++ r.batch) t.stop inputs o.shows;
}

-- this is the text of the one round that is owed, and whether want of memory is told in it
pub record IsDebt (text : List ℕ) (short : Bool) (owing : List Round) : Type 0 where
  pub round : Round
  pub one : owing ≡ round ∷ []
  pub text_is : text ≡ round_text round
  pub short_is : short ≡ is_short_round round

-- it was put
pub debt_put : (s : Setting) (start old now : Outside) (name : List ℕ) (run new : Run) (switch : SwitchNow) (left : List Round → Type 0) (t : Stretch) (text : List ℕ) (short : Bool) (u : ⊤) → new.reading ≡ run.reading → new.short ≡ (run.short || short) → DoesPut old now text (Ok u)
    → (o : IsOwing s start old name run switch left t) → IsDebt text short (IsOwing.owing o) → IsOwing s start now name new switch none_left t
debt_put s start old now name run new switch left t text short u same new_short put o d =
    let p = put_by start old now o.rounds d.round text u run.short new.short short o.since o.short_is o.puts d.text_is new_short d.short_is put in
    let so = subst (λ rs. AreSoFar s o.given (cuts_within s.commands t.first) rs o.histories) (ap (λ w. o.rounds ++ w) d.one ∙ sym (append-nil (o.rounds ++ d.round ∷ []))) o.so in
    let read = read_on_put s.commands start old now name run.reading o.given t put.inputs o.read in
    record {
      given = o.given;
      rounds = o.rounds ++ d.round ∷ [];
      owing = [];
      histories = o.histories;
      since = p.since;
      read = subst (λ r. IsReadUpTo s.commands start now name r o.given t) (sym same) read;
      count = o.count;
      cut = o.cut;
      so = so;
      at = o.at;
      short_is = p.short_is;
      puts = p.puts;
      are_left = refl;
    }

-- or a front of it
pub debt_unput : (s : Setting) (start old now : Outside) (name : List ℕ) (run : Run) (switch : SwitchNow) (left : List Round → Type 0) (t : Stretch) (text : List ℕ) (short : Bool) (e : Failed) → DoesPut old now text (Err e) → (o : IsOwing s start old name run switch left t) → IsDebt text short (IsOwing.owing o) → RunsTrace s start now name end.WriteFault
debt_unput s start old now name run switch left t text short e put o d =
    let c = subst (λ rs. Continues s start now name (report_text (o.rounds ++ rs))) d.one (owing_goes_on s start old now name run switch left t put.inputs o) in
    fault_ends s start old now name o.rounds d.round text e o.since (omega (arith, o.read.reading.later, put.inputs.input_faults)) d.text_is c o.puts put

-- ---- the next round

-- a whole round was read
whole_read : (commands : List Line) (start now : Outside) (name : List ℕ) (r : Reading) (packets given : List Record) (t : Stretch) → t.stop ≡ stop.Full → (o : IsReadUpTo commands start now name (in_batch r packets) given t) → IsRead start now name r (IsReadUpTo.bytes o) (given ++ packets) × (length (given ++ packets) ≡ t.next) × (t.next ≤ most_records)
whole_read commands start now name r packets given t full o =
    let h = subst (λ st. ShowsStop start now name (in_batch r packets) o.bytes (given ++ packets) st) full o.shows in
    let long = subst (λ st. IsAsLong st t.next (length (given ++ packets))) full o.long in
    (record { reading = h.reading; stands = h.stands; seen = h.seen; end = h.end }, long.0, long.1)

-- it was read while the round before is out
pub read_ahead : (s : Setting) (start old now : Outside) (name : List ℕ) (run new : Run) (switch : SwitchNow) (lines : List Line) (packets : List Record) (t next : Stretch) → s.commands ≡ lines → t.stop ≡ stop.Full → 0 < length packets → SameOutputs old now → next.first ≡ t.next → new.short ≡ run.short
    → ((bytes : List ℕ) (given : List Record) → IsRead start old name run.reading bytes given → 0 < length given → length given ≡ t.next → IsReadUpTo lines start now name new.reading given next) → IsOwing s start old name (with_batch run packets) switch none_left t → IsAhead s start now name new switch t.first packets next
read_ahead s start old now name run new switch lines packets t next same full some outputs first short reads o =
    let w = whole_read s.commands start old name run.reading packets o.given t full o.read in
    let r = reads o.read.bytes (o.given ++ packets) w.0 (omega (arith, w.1, o.read.next.above)) w.1 in
    record {
      given = o.given;
      rounds = o.rounds;
      histories = o.histories;
      since = since_read start old now o.since outputs;
      read = subst (λ ls. IsReadUpTo ls start now name new.reading (o.given ++ packets) next) (sym same) r;
      before = o.count;
      cut = o.cut;
      next = subst (λ n. IsNextCut s.commands t.first n) (sym first) o.read.next;
      total = w.1 ∙ sym first;
      some = some;
      low = omega (arith, first, w.2);
      so = put_all s o.given (cuts_within s.commands t.first) o.rounds o.owing o.histories o.are_left o.so;
      at = o.at;
      short_is = o.short_is ∙ sym short;
      puts = grows_read start old now (report_text o.rounds) outputs o.puts;
    }

-- there was no memory for it
pub unread_ahead : (s : Setting) (start old now : Outside) (name : List ℕ) (run new : Run) (switch : SwitchNow) (packets : List Record) (t : Stretch) → t.stop ≡ stop.Full → SameOutputs old now → ((bytes : List ℕ) (given : List Record) → IsRead start old name run.reading bytes given → 0 < length given → length given ≡ t.next → IsReadShort start now name new.reading given)
    → IsOwing s start old name (with_batch run packets) switch none_left t → RunsTrace s start now name end.Memory
unread_ahead s start old now name run new switch packets t full outputs reads o =
    let w = whole_read s.commands start old name run.reading packets o.given t full o.read in
    let r = reads o.read.bytes (o.given ++ packets) w.0 (omega (arith, w.1, o.read.next.above)) w.1 in
    let so = put_all s o.given (cuts_within s.commands t.first) o.rounds o.owing o.histories o.are_left o.so in
    let low = owing_low s start old name (with_batch run packets) switch none_left t o in
    let c = continues_read s start now name new.reading.source.file r.bytes o.given o.rounds o.histories t.first r.reading (passed_first r.bytes o.given packets r.passed) o.count low o.cut so in
    runs_so s start now name end.Memory (since_read start old now o.since outputs) r.reading.later (inr (inr (breaks_after s start now name c.trace (report_text o.rounds) c.reads c.follows (grows_read start old now (report_text o.rounds) outputs o.puts))))

-- ---- the round that was out

is_run_full : (b : Bool) (n : ℕ) → 0 < n → (not (n == 0) || (false && b)) ≡ true
is_run_full b n some = grind (arith, common_steps)

-- is done, and is to be told
pub done_ahead : (s : Setting) (start now : Outside) (name : List ℕ) (run : Run) (switch after : SwitchNow) (first : ℕ) (packets : List Record) (t : Stretch) (left : List Round → Type 0) (short : Bool) (text : List ℕ) → ((r : Round) → text ≡ round_text r → short ≡ is_short_round r → left (r ∷ []))
    → (a : IsAhead s start now name run switch first packets t) → TellsRound s (IsAhead.histories a) first packets after short [] text → IsOwing s start now name run after left t
done_ahead s start now name run switch after first packets t left short text owed a ran =
    let rounds = rounds_run s first t.first a.given packets a.rounds a.histories after short [] text stop.Full a.before a.cut a.next (a.total, a.low) (is_run_full ((first == 0) || is_named_by s.commands first) (length packets) a.some) a.so ran in
    record {
      given = a.given ++ packets;
      rounds = a.rounds;
      owing = ran.round ∷ [];
      histories = ran.histories;
      since = a.since;
      read = a.read;
      count = a.total;
      cut = a.next.is_cut;
      so = subst (λ n. AreSoFar s (a.given ++ packets) (cuts_within s.commands n) (a.rounds ++ ran.round ∷ []) ran.histories) a.total rounds;
      at = ran.at;
      short_is = a.short_is;
      puts = a.puts;
      are_left = owed ran.round ran.text ran.short_is;
    }
