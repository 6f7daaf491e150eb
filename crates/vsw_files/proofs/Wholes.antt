-- A trace that is read as a whole.
use Rattle.std.proofs.Common.{◌≡◌, ◌<◌, ◌≤◌, ◌-◌, ◌+◌, inl, inr, ℕ, List, [], ◌++◌, Some, None, Ok, Err, length, drop, refl, sym, ap, ◌∙◌, subst, arith, append_assoc, length-drop}
use Rattle.std.proofs.lemmas.List.{length-append, take-append-drop}
use Rattle.std.specs.Bool.{⊤}
use Rattle.vsw_files.proofs.Reading.{front_file, got_of}
use Rattle.vsw_files.specs.Opened.{OpensOne}
use Rattle.vsw_files.specs.Private.Whole.{EndsSo, Finds, IsOver, OpensTrace, ReadsWhole, Traces}
use Rattle.vsw_host.specs.Outside.{Opened, Outside, SameOutputs}
use Rattle.vsw_host.specs.Source.{IsReading}
use Rattle.vsw_host.specs.Told.{ReadsAll}
use Rattle.vsw_host.proofs.CallerLemmas.{SameOutputs-trans}
use Rattle.vsw_pcap.specs.Capture.{IsCapture, Splits, Stops, front_of, header_of}
use Rattle.vsw_pcap.specs.Decides.{Decides}
use Rattle.vsw_pcap.specs.declared.capture.Front.TheVariants.{Oversize}
use Rattle.vsw_pcap.specs.declared.capture.Record.{Record}
use Rattle.vsw_pcap.specs.declared.fault.BadTrace.{BadTrace}
use Rattle.vsw_pcap.specs.declared.fault.BadTrace.TheVariants.{NotPcap, Version, LinkType, Cut, Huge}
use Rattle.vsw_pcap.proofs.Format.{header_of-append}
use Rattle.vsw_reading.proofs.Open.{FillsSo}
use Rattle.vsw_reading.proofs.Passing.{header_more, splits_more}
use Rattle.vsw_reading.proofs.Splitting.{splits_shorter, stands_passed, stops_at}
use Rattle.vsw_reading.specs.Reads.{Holds, IsBehind, IsOpen, IsRead, Peeks}
use Rattle.vsw_reading.specs.Reads as reads
use Rattle.vsw_reading.specs.declared.reading.Reading.{Reading}
use Rattle.vsw_reading.specs.declared.reading.Stop.{Stop}
use Rattle.vsw_reading.specs.declared.reading.Stop.TheVariants as stop
use Rattle.vsw_run.proofs.Endings.{huge_longer}
use Rattle.vsw_run.specs.Checks.{IsTrace}
use Rattle.vsw_run.specs.Trace.{most_records}
use Rattle.vsw_run.specs.declared.ending.Ending.{Ending}
use Rattle.vsw_run.specs.declared.ending.Ending.TheVariants as ending

-- ---- the file of which these bytes were read

record IsFront (start now : Outside) (file_name bytes : List ℕ) : Type 0 where
  file : Opened
  opens : OpensOne start.inputs now.inputs file_name file
  more : List ℕ
  is : file.bytes ≡ bytes ++ more

front : (start now : Outside) (name : List ℕ) (number : ℕ) (bytes : List ℕ) → IsReading start now name number bytes → IsFront start now name bytes
front start now name number bytes r = record {
  file = record { name = name; bytes = r.front.bytes; read = length bytes };
  opens = front_file start.inputs now.inputs name bytes r.front;
  more = drop (length bytes) r.front.bytes;
  is = sym (take-append-drop (length bytes) r.front.bytes) ∙ ap (λ xs. xs ++ drop (length bytes) r.front.bytes) (sym r.front.front);
}

all_of : (start now : Outside) (name bytes : List ℕ) → ReadsAll start.inputs now.inputs name bytes → OpensOne start.inputs now.inputs name (got_of name bytes)
all_of start now name bytes r = record { named = refl; since = r.since; held = r.held; within = omega arith }

-- ---- how a trace stops

sound : (start now : Outside) (name bytes : List ℕ) (records : List Record) → ReadsAll start.inputs now.inputs name bytes → IsCapture bytes records None → length records ≤ most_records → Finds start now name (λ f. IsTrace name f records)
sound start now name bytes records all capture few = (got_of name bytes, all_of start now name bytes all, record { named = refl; whole = refl; sound = capture; few = few })

-- the header of a file is bad if that of a front is
bad_header : (bytes more file : List ℕ) (bad : BadTrace) → file ≡ bytes ++ more → 24 ≤ length bytes → header_of bytes ≡ Err bad → header_of file ≡ Err bad
bad_header bytes more file bad is long h = ap header_of is ∙ (header_of-append bytes more long ∙ h)

-- the whole file has the fault of what was read
refused : (start now : Outside) (name : List ℕ) (r : Reading) (bytes : List ℕ) (records : List Record) (bad : BadTrace) → IsRead start now name r bytes records → IsCapture bytes records (Some bad) → Decides bad r.reader.finished (length bytes) → Finds start now name (λ f. IsCapture f.bytes records (Some bad))
refused start now name r bytes records NotPcap h c (inl end) = (got_of name bytes, all_of start now name bytes (h.end end), c)
refused start now name r bytes records NotPcap h c (inr long) = let f = front start now name r.source.file bytes h.reading in (f.file, f.opens, (bad_header bytes f.more f.file.bytes NotPcap f.is long c.0, c.1))
refused start now name r bytes records Version h c long = let f = front start now name r.source.file bytes h.reading in (f.file, f.opens, (bad_header bytes f.more f.file.bytes Version f.is long c.0, c.1))
refused start now name r bytes records LinkType h c long = let f = front start now name r.source.file bytes h.reading in (f.file, f.opens, (bad_header bytes f.more f.file.bytes LinkType f.is long c.0, c.1))
refused start now name r bytes records (Cut at) h c end = (got_of name bytes, all_of start now name bytes (h.end end), c)
refused start now name r bytes records (Huge at) h c tt =
    let f = front start now name r.source.file bytes h.reading in (f.file, f.opens, subst (λ w. Stops w records at Oversize) (sym f.is) (huge_longer bytes f.more records at c))

-- a byte follows the last record that a trace may have
over : (start old now : Outside) (name : List ℕ) (r : Reading) (number : ℕ) (bytes more : List ℕ) (records : List Record) → IsRead start old name r bytes records → length records ≡ most_records → IsReading start now name number (bytes ++ more) → 0 < length (r.reader.left ++ more) → Finds start now name (λ f. IsOver f records)
over start old now name r number bytes more records h full reading some =
    let t = stands_passed r.reader bytes records (omega (arith, full)) h.stands in
    let f = front start now name number (bytes ++ more) reading in
    let tail : List ℕ = more ++ f.more in
    let rest : List ℕ = r.reader.left ++ tail in
    let is : f.file.bytes ≡ bytes ++ tail = f.is ∙ append_assoc bytes more f.more in
    let header : header_of f.file.bytes ≡ Ok t.form = ap header_of is ∙ header_more bytes tail t.form t.header in
    let splits : Splits t.form (drop 24 f.file.bytes) records rest = subst (λ w. Splits t.form (drop 24 w) records rest) (sym is) (splits_more bytes tail t.form records r.reader.left t.header t.splits) in (
      f.file,
      f.opens,
      record {
        at = length f.file.bytes - length rest;
        front = front_of t.form rest;
        stops = stops_at f.file.bytes t.form records rest (front_of t.form rest) header splits refl;
        more = omega (arith, some, length-append r.reader.left more, length-append r.reader.left tail, length-append more f.more, splits_shorter t.form (drop 24 f.file.bytes) records rest splits, length-drop 24 f.file.bytes);
        full = full;
      },
    )

-- nothing does
ended : (start old now : Outside) (name : List ℕ) (r : Reading) (bytes : List ℕ) (records : List Record) → IsRead start old name r bytes records → length records ≡ most_records → ReadsAll start.inputs now.inputs name bytes → r.reader.left ≡ [] → Finds start now name (λ f. IsTrace name f records)
ended start old now name r bytes records h full all none =
    let t = stands_passed r.reader bytes records (omega (arith, full)) h.stands in
    sound start now name bytes records all (t.form, t.header, subst (Splits t.form (drop 24 bytes) records) none t.splits) (omega (arith, full))

-- ---- what the calls promise

pub nothing_held : (start now : Outside) (name : List ℕ) (r : Reading) → r.batch ≡ [] → IsRead start now name r [] [] → Holds start now name r []
nothing_held start now name r e read = record { bytes = []; read = subst (λ (b : List Record). IsRead start now name r [] b) (sym e) read }

-- the reading stays open
pub open_filled : (old now : Outside) (r q : Reading) (s : Stop) → IsOpen old r → FillsSo old now r q most_records (Ok s) → IsOpen now q
open_filled old now r q s o fills = let w = fills o.start o.name o.given o.reads in record { start = o.start; name = o.name; given = o.given; reads = record { bytes = w.bytes; read = w.read } }

-- all records were read, and what follows was looked at
peeked : (start old now : Outside) (name : List ℕ) (r q : Reading) (s : Stop) → reads.StopsSo start old name r [] most_records stop.Full → q.reader ≡ r.reader → ((bytes : List ℕ) (records : List Record) → IsRead start old name r bytes records → Peeks start now name q bytes s) → EndsSo start now name r.batch (Ok s)
peeked start old now name r q s w e peeks = by s (peeks w.bytes r.batch w.read)
  where
    left : q.reader.left ≡ r.reader.left
    left = ap (λ p. p.left) e

    by : (s : Stop) → Peeks start now name q w.bytes s → EndsSo start now name r.batch (Ok s)
    by stop.Full (more, reading, some) = over start old now name r q.source.file w.bytes more r.batch w.read w.says reading (subst (λ (xs : List ℕ). 0 < length (xs ++ more)) left some)
    by stop.End (none, all, reading) = ended start old now name r w.bytes r.batch w.read w.says all (sym left ∙ none)
    by stop.Fault (none, rose, reading) = let f = front start now name q.source.file w.bytes reading in (f.file, f.opens, rose)
    by (stop.Bad bad) p = absurd p

pub looked : (start old now : Outside) (name : List ℕ) (r q : Reading) (t s : Stop) → t ≡ stop.Full → reads.StopsSo start old name r [] most_records t → q.reader ≡ r.reader → q.batch ≡ r.batch → ((bytes : List ℕ) (records : List Record) → IsRead start old name r bytes records → Peeks start now name q bytes s) → EndsSo start now name q.batch (Ok s)
looked start old now name r q t s is w e same peeks = subst (λ rs. EndsSo start now name rs (Ok s)) (sym same) (peeked start old now name r q s (subst (reads.StopsSo start old name r [] most_records) is w) e peeks)

-- or the trace stopped before
pub filled : (start now : Outside) (name : List ℕ) (q : Reading) (s : Stop) → (s ≡ stop.Full → ⊥) → reads.StopsSo start now name q [] most_records s → EndsSo start now name q.batch (Ok s)
filled start now name q stop.Full other w = absurd (other refl)
filled start now name q stop.End other w = sound start now name w.bytes q.batch w.says.1 w.says.2 (omega (arith, w.says.0))
filled start now name q stop.Fault other w = let f = front start now name q.source.file w.bytes w.read.reading in (f.file, f.opens, w.says.1)
filled start now name q (stop.Bad bad) other w =
    let f = refused start now name q w.bytes q.batch bad w.read w.says.1 w.says.2 in (f.0, f.1, (f.2, w.says.0))

-- or there was no memory
pub unfilled : (start now : Outside) (name : List ℕ) (q : Reading) (records : List Record) → IsBehind start now name q records → Finds start now name (λ f. Unit {0})
unfilled start now name q records b = let f = front start now name q.source.file (b.bytes ++ b.more) b.reading in (f.file, f.opens, tt)

-- ---- no count of faults falls

pub peeked_later : (start now : Outside) (name : List ℕ) (q : Reading) (bytes : List ℕ) (s : Stop) → Peeks start now name q bytes s → start.input_faults ≤ now.input_faults
peeked_later start now name q bytes stop.Full (more, reading, some) = reading.later
peeked_later start now name q bytes stop.End (none, all, reading) = reading.later
peeked_later start now name q bytes stop.Fault (none, rose, reading) = reading.later
peeked_later start now name q bytes (stop.Bad bad) p = absurd p

-- ---- the trace of a name

pub whole_trace : (old mid new : Outside) (name : List ℕ) (q : Reading) (u : ⊤) → SameOutputs old mid → SameOutputs mid new → old.input_faults ≤ new.input_faults → ReadsWhole old new name q.batch (Ok u) → OpensTrace old new name (Ok q)
whole_trace old mid new name q u so same later w = record { finds = w; outputs = SameOutputs-trans old mid new so same; later = later }

pub broken_trace : (old mid new : Outside) (name : List ℕ) (records : List Record) (end : Ending) → SameOutputs old mid → SameOutputs mid new → old.input_faults ≤ new.input_faults → ReadsWhole old new name records (Err end) → OpensTrace old new name (Err end)
broken_trace old mid new name records end so same later w = by end w
  where
    gives : (end : Ending) → Traces old new name (Err end) → OpensTrace old new name (Err end)
    gives end t = record { finds = t; outputs = SameOutputs-trans old mid new so same; later = later }

    by : (end : Ending) → ReadsWhole old new name records (Err end) → OpensTrace old new name (Err end)
    by ending.Records w = gives ending.Records (records, w)
    by ending.ReadFault (f, one, rose) = gives ending.ReadFault (rose, inr (f, one, tt))
    by (ending.Trace bad) w = gives (ending.Trace bad) (records, w)
    by ending.Memory w = gives ending.Memory (inr w)
    by ending.Done w = absurd w
    by ending.Usage w = absurd w
    by ending.WriteFault w = absurd w
    by (ending.Policy why) w = absurd w
    by (ending.Commands why) w = absurd w
    by (ending.Report why) w = absurd w
    by ending.Illegal w = absurd w
    by (ending.Rows why) w = absurd w
