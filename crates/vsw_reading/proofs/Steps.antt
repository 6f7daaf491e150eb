-- A record more of a trace, or why there is none.
use Rattle.std.proofs.Common.{◌≡◌, ◌<◌, ◌+◌, ℕ, List, [], ◌∷◌, ◌++◌, Bool, true, false, nat_lt, if◌then◌else◌, Option, Some, None, Result, Ok, Err, length, refl, sym, ◌∙◌, ap, subst, arith, append-nil, append_assoc, length-append}
use Rattle.std.proofs.lemmas.Grind.{common_steps}
use Rattle.vsw_base.specs.declared.fault.NoMemory.{NoMemory}
use Rattle.vsw_host.specs.Outside.{Outside, SameOutputs}
use Rattle.vsw_host.specs.Source.{IsReading}
use Rattle.vsw_pcap.specs.Batch.{ReadsInto, with_next}
use Rattle.vsw_pcap.specs.Capture.{IsCapture}
use Rattle.vsw_pcap.specs.Progress.{Progress}
use Rattle.vsw_pcap.specs.Reader.{Stands, Waits}
use Rattle.vsw_pcap.specs.declared.batch.Found.{Found}
use Rattle.vsw_pcap.specs.declared.batch.Found.TheVariants as found
use Rattle.vsw_pcap.specs.declared.capture.Record.{Record}
use Rattle.vsw_pcap.specs.declared.fault.BadTrace.{BadTrace}
use Rattle.vsw_pcap.specs.declared.reader.Next.{Next}
use Rattle.vsw_pcap.specs.declared.reader.Next.TheVariants as next
use Rattle.vsw_reading.specs.declared.reading.Reading.{Reading}
use Rattle.vsw_reading.specs.declared.reading.Stop.{Stop}
use Rattle.vsw_reading.specs.declared.reading.Stop.TheVariants as stop
use Rattle.vsw_reading.specs.Reads.{IsRead, IsBehind, IsOpen, HasGrown, Holds, StopsSo}
use Rattle.vsw_reading.specs.Private.Steps.{TakesPiece, Steps}

-- what a reader found, whatever it was fed and gave
abbrev pub Finds : Progress → Progress → List Record → List Record → Found → Type 0
Finds old new before after f = (bytes : List ℕ) (records : List Record) → Stands old bytes records → ReadsInto new bytes records before after f

-- the reading after the reader looked for a record
abbrev after : Reading → Progress → List Record → Reading
after r p batch = record { source = r.source; reader = p; batch = batch; seen = r.seen }

read_after : (start now : Outside) (name : List ℕ) (r : Reading) (p : Progress) (batch : List Record) (bytes : List ℕ) (olds news : List Record) → IsRead start now name r bytes olds → Stands p bytes news → p.finished ≡ r.reader.finished → IsRead start now name (after r p batch) bytes news
read_after start now name r p batch bytes olds news h stands finished = record { reading = h.reading; stands = stands; seen = h.seen; end = λ t. h.end (sym finished ∙ t) }

-- the records given before, and those of the batch
joined : (given before batch : List Record) (r : Record) → batch ≡ before ++ r ∷ [] → (given ++ before) ++ r ∷ [] ≡ given ++ batch
joined given before batch r e = append_assoc given before (r ∷ []) ∙ ap (λ w. given ++ w) (sym e)

same_batch : (start now : Outside) (name : List ℕ) (r : Reading) (bytes : List ℕ) (given one two : List Record) → one ≡ two → IsRead start now name r bytes (given ++ two) → IsRead start now name r bytes (given ++ one)
same_batch start now name r bytes given one two e h = subst (λ w. IsRead start now name r bytes (given ++ w)) (sym e) h

-- a record was read
pub step_record : (start now : Outside) (name : List ℕ) (r : Reading) (p : Progress) (batch given : List Record) (most : ℕ) (b : Option Stop) → b ≡ (if nat_lt (length batch) most then None else Some stop.Full) → length r.batch < most → p.finished ≡ r.reader.finished → Finds r.reader p r.batch batch found.Record
    → Holds start now name r given → Steps start now name (after r p batch) given most (Ok b)
step_record start now name r p batch given most b full room finished finds h =
    let f = finds h.bytes (given ++ r.batch) h.read.stands in
    let read : IsRead start now name (after r p batch) h.bytes (given ++ batch) = read_after start now name r p batch h.bytes (given ++ r.batch) (given ++ batch) h.read (subst (λ w. Stands p h.bytes w) (joined given r.batch batch f.0 f.1) f.2) finished in
    let size : length batch ≡ length r.batch + 1 = ap length f.1 ∙ length-append r.batch (f.0 ∷ []) in
    subst (λ b. Steps start now name (after r p batch) given most (Ok b)) (sym full) (by (nat_lt (length batch) most) refl h.bytes read size)
  where
    by : (b : Bool) → nat_lt (length batch) most ≡ b → (bytes : List ℕ) → IsRead start now name (after r p batch) bytes (given ++ batch) → length batch ≡ length r.batch + 1 → Steps start now name (after r p batch) given most (Ok (if b then None else Some stop.Full))
    by true t bytes read size = (record { bytes = bytes; read = read }, grind (arith, common_steps))
    by false t bytes read size = record { bytes = bytes; read = read; says = grind (arith, common_steps) }

-- the trace ended
pub step_end : (start now : Outside) (name : List ℕ) (r : Reading) (p : Progress) (batch given : List Record) (most : ℕ) → length r.batch < most → p.finished ≡ r.reader.finished → Finds r.reader p r.batch batch found.End → Holds start now name r given → StopsSo start now name (after r p batch) given most stop.End
step_end start now name r p batch given most room finished finds h =
    let f = finds h.bytes (given ++ r.batch) h.read.stands in
    let same = f.0 in
    record {
      bytes = h.bytes;
      read = same_batch start now name (after r p batch) h.bytes given batch r.batch same (read_after start now name r p batch h.bytes (given ++ r.batch) (given ++ r.batch) h.read f.1 finished);
      says = (subst (λ w. length w < most) (sym same) room, h.read.end (sym finished ∙ f.2), subst (λ w. IsCapture h.bytes (given ++ w) None) (sym same) f.3);
    }

-- the trace is refused
pub step_bad : (start now : Outside) (name : List ℕ) (r : Reading) (p : Progress) (batch given : List Record) (most : ℕ) (bad : BadTrace) → length r.batch < most → p.finished ≡ r.reader.finished → Finds r.reader p r.batch batch (found.Bad bad) → Holds start now name r given → StopsSo start now name (after r p batch) given most (stop.Bad bad)
step_bad start now name r p batch given most bad room finished finds h =
    let f = finds h.bytes (given ++ r.batch) h.read.stands in
    let same = f.0 in
    record {
      bytes = h.bytes;
      read = same_batch start now name (after r p batch) h.bytes given batch r.batch same (read_after start now name r p batch h.bytes (given ++ r.batch) (given ++ r.batch) h.read f.1 finished);
      says = (subst (λ w. length w < most) (sym same) room, subst (λ w. IsCapture h.bytes (given ++ w) (Some bad)) (sym same) f.2, f.3);
    }

-- there was no memory for a record
pub step_unread : (start now : Outside) (name : List ℕ) (r : Reading) (p : Progress) (batch given : List Record) → p ≡ r.reader → batch ≡ r.batch → Holds start now name r given → IsBehind start now name (after r p batch) (given ++ batch)
step_unread start now name r p batch given reader same h = record {
  bytes = h.bytes;
  more = [];
  reading = subst (λ b. IsReading start now name r.source.file b) (sym (append-nil h.bytes)) h.read.reading;
  stands = subst (λ w. Stands p h.bytes (given ++ w)) (sym same) (subst (λ q. Stands q h.bytes (given ++ r.batch)) (sym reader) h.read.stands);
}

-- the bytes in hand don't tell what follows
waits_read : (start now : Outside) (name : List ℕ) (r : Reading) (p : Progress) (batch : List Record) (bytes : List ℕ) (records : List Record) → p.finished ≡ r.reader.finished → Finds r.reader p r.batch batch found.More → IsRead start now name r bytes records → IsRead start now name (after r p batch) bytes records
waits_read start now name r p batch bytes records finished finds h = read_after start now name r p batch bytes records records h (finds bytes records h.stands).1 finished

-- then a piece was read, or the host couldn't, or there was no memory
pub step_on : (start old now : Outside) (name : List ℕ) (r new : Reading) (p : Progress) (batch given : List Record) (most : ℕ) → length r.batch < most → p.finished ≡ r.reader.finished → Finds r.reader p r.batch batch found.More → new.batch ≡ batch
    → ((bytes : List ℕ) (records : List Record) → IsRead start old name (after r p batch) bytes records → TakesPiece start now name new bytes records (Ok true)) → Holds start old name r given → Holds start now name new given × (length new.batch < most)
step_on start old now name r new p batch given most room finished finds same takes h =
    let f = finds h.bytes (given ++ r.batch) h.read.stands in
    let all : new.batch ≡ r.batch = same ∙ f.0 in
    let t = takes h.bytes (given ++ r.batch) (waits_read start old name r p batch h.bytes (given ++ r.batch) finished finds h.read) in (
      record { bytes = h.bytes ++ t.0; read = same_batch start now name new (h.bytes ++ t.0) given new.batch r.batch all t.1 },
      subst (λ w. length w < most) (sym all) room,
    )

pub step_fault : (start old now : Outside) (name : List ℕ) (r new : Reading) (p : Progress) (batch given : List Record) (most : ℕ) → length r.batch < most → p.finished ≡ r.reader.finished → Finds r.reader p r.batch batch found.More → new.batch ≡ batch
    → ((bytes : List ℕ) (records : List Record) → IsRead start old name (after r p batch) bytes records → TakesPiece start now name new bytes records (Ok false)) → Holds start old name r given → StopsSo start now name new given most stop.Fault
step_fault start old now name r new p batch given most room finished finds same takes h =
    let f = finds h.bytes (given ++ r.batch) h.read.stands in
    let all : new.batch ≡ r.batch = same ∙ f.0 in
    let t = takes h.bytes (given ++ r.batch) (waits_read start old name r p batch h.bytes (given ++ r.batch) finished finds h.read) in record {
      bytes = h.bytes;
      read = same_batch start now name new h.bytes given new.batch r.batch all t.0;
      says = (subst (λ w. length w < most) (sym all) room, t.1, subst (λ w. Waits h.bytes (given ++ w)) (sym all) f.3);
    }

pub step_unfed : (start old now : Outside) (name : List ℕ) (r new : Reading) (p : Progress) (batch given : List Record) (e : NoMemory) → p.finished ≡ r.reader.finished → Finds r.reader p r.batch batch found.More → new.batch ≡ batch
    → ((bytes : List ℕ) (records : List Record) → IsRead start old name (after r p batch) bytes records → TakesPiece start now name new bytes records (Err e)) → Holds start old name r given → IsBehind start now name new (given ++ new.batch)
step_unfed start old now name r new p batch given e finished finds same takes h =
    let f = finds h.bytes (given ++ r.batch) h.read.stands in
    let all : new.batch ≡ r.batch = same ∙ f.0 in
    let t = takes h.bytes (given ++ r.batch) (waits_read start old name r p batch h.bytes (given ++ r.batch) finished finds h.read) in
    subst (λ w. IsBehind start now name new (given ++ w)) (sym all) t

-- the reading can go on
pub open_more : (now : Outside) (r : Reading) (p : Progress) (batch : List Record) → p.finished ≡ r.reader.finished → Finds r.reader p r.batch batch found.More → IsOpen now r → IsOpen now (after r p batch)
open_more now r p batch finished finds o =
    let b = o.reads.bytes in
    let all = o.given ++ r.batch in
    let read = waits_read o.start now o.name r p batch b all finished finds o.reads.read in
    let same = (finds b all o.reads.read.stands).0 in
    record { start = o.start; name = o.name; given = o.given; reads = record { bytes = b; read = same_batch o.start now o.name (after r p batch) b o.given batch r.batch same read } }

pub unfinished : (now : Outside) (r : Reading) (p : Progress) (batch : List Record) → Finds r.reader p r.batch batch found.More → IsOpen now r → p.finished ≡ false
unfinished now r p batch finds o = (finds o.reads.bytes (o.given ++ r.batch) o.reads.read.stands).2

-- a step, whatever was given before
abbrev pub StepsSo : Outside → Outside → Reading → Reading → ℕ → Result (Option Stop) NoMemory → Type 0
StepsSo old now r new most result = (start : Outside) (name : List ℕ) (given : List Record) → Holds start old name r given → Steps start now name new given most result

pub open_stepped : (old now : Outside) (r new : Reading) (most : ℕ) → StepsSo old now r new most (Ok None) → IsOpen old r → IsOpen now new
open_stepped old now r new most steps o = record { start = o.start; name = o.name; given = o.given; reads = (steps o.start o.name o.given o.reads).0 }

pub room_stepped : (old now : Outside) (r new : Reading) (most : ℕ) → StepsSo old now r new most (Ok None) → IsOpen old r → length new.batch < most
room_stepped old now r new most steps o = (steps o.start o.name o.given o.reads).1

-- the same of two calls
pub outputs_then : (a b c : Outside) → SameOutputs a b → SameOutputs b c → SameOutputs a c
outputs_then a b c f g = record { put = g.put ∙ f.put; complained = g.complained ∙ f.complained; put_faults = g.put_faults ∙ f.put_faults; complain_faults = g.complain_faults ∙ f.complain_faults }

-- what was read, where nothing is left unfed
pub all_fed : (start now : Outside) (name : List ℕ) (r : Reading) (given : List Record) → Holds start now name r given → IsBehind start now name r (given ++ r.batch)
all_fed start now name r given h = record { bytes = h.bytes; more = []; reading = subst (λ b. IsReading start now name r.source.file b) (sym (append-nil h.bytes)) h.read.reading; stands = h.read.stands }

-- ---- the batch grows

pub grown_none : (old new : List Record) → new ≡ old → HasGrown old new
grown_none old new e = record { more = []; batch = e ∙ sym (append-nil old) }

grown_next : (n : Next) (old : List Record) → HasGrown old (with_next n old)
grown_next (next.Record r) old = record { more = r ∷ []; batch = refl }
grown_next next.More old = grown_none old old refl
grown_next next.End old = grown_none old old refl
grown_next (next.Bad bad) old = grown_none old old refl

-- by what was read into it
pub grown_read : (n : Next) (old batch new : List Record) → batch ≡ with_next n old → new ≡ batch → HasGrown old new
grown_read n old batch new e f = subst (λ w. HasGrown old w) (sym (f ∙ e)) (grown_next n old)

-- by step after step
pub grown_then : (a b c : List Record) → HasGrown a b → HasGrown b c → HasGrown a c
grown_then a b c f g = record { more = f.more ++ g.more; batch = g.batch ∙ (ap (λ w. w ++ g.more) f.batch ∙ append_assoc a f.more g.more) }
