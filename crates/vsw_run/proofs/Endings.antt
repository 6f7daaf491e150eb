-- How a trace is judged, whatever was read of it.
use Rattle.std.proofs.Common.{◌≡◌, ◌<◌, ◌≤◌, ◌⊎◌, inl, inr, ℕ, ◌+◌, List, [], ◌∷◌, ◌++◌, length, drop, Some, None, Ok, Err, refl, ap, sym, ◌∙◌, subst, arith}
use Rattle.std.proofs.lemmas.List.{length-append, drop-append-le}
use Rattle.vsw_pcap.specs.Capture.{header_of, front_of, record_of, Splits, Stops, IsCapture}
use Rattle.vsw_pcap.specs.declared.capture.Form.{Form}
use Rattle.vsw_pcap.specs.declared.capture.Front.{Front}
use Rattle.vsw_pcap.specs.declared.capture.Front.TheVariants.{Whole, Oversize}
use Rattle.vsw_pcap.specs.declared.capture.Record.{Record}
use Rattle.vsw_pcap.specs.declared.fault.BadTrace.{BadTrace}
use Rattle.vsw_pcap.specs.declared.fault.BadTrace.TheVariants.{NotPcap, Version, LinkType, Cut, Huge}
use Rattle.vsw_pcap.proofs.Format.{whole_is, accepted_long, accepted-append, header_of-append, oversize-append, Splits-append}
use Rattle.vsw_pcap.proofs.Unique.{captures_are_unique}
use Rattle.vsw_run.specs.declared.ending.Ending.{Ending}
use Rattle.vsw_run.specs.declared.ending.Ending.TheVariants as ending
use Rattle.vsw_promise.specs.Jobs.{Setting}
use Rattle.vsw_run.specs.Trace.{All, Trace, HasBadRecord, HasMore, most_records}

-- bytes stand after these records
pub record IsOver (file : List ℕ) (records : List Record) : Type 0 where
  pub form : Form
  pub rest : List ℕ
  pub header : header_of file ≡ Ok form
  pub splits : Splits form (drop 24 file) records rest
  pub more : 0 < length rest

-- what a whole file says, by the ending that it gives
abbrev pub Says : List ℕ → Ending → List Record → Type 0
Says file ending.Done records = IsCapture file records None × (length records ≤ most_records)
Says file (ending.Trace bad) records = IsCapture file records (Some bad) × (length records < most_records)
Says file ending.Records records = IsOver file records × (length records ≡ most_records)
Says file _ records = ⊥

-- ---- one ending

-- no more records are split off than there are
least : (form : Form) (bytes : List ℕ) (qs rs : List Record) (tail rest : List ℕ) → Splits form bytes qs tail → Splits form bytes rs rest → ((n : ℕ) → front_of form rest ≡ Whole n → ⊥) → length qs ≤ length rs
least form bytes [] rs tail rest s t last = omega arith
least form bytes (q ∷ qs) [] tail rest s t last = absurd (last s.0 (ap (front_of form) (sym t) ∙ s.1))
least form bytes (q ∷ qs) (r ∷ rs) tail rest s t last =
    let one = s.1 in
    let two = t.1 in
    let same : t.0 ≡ s.0 = cc in
    let moved = subst (λ n. Splits form (drop (16 + n) bytes) rs rest) same t.3 in omega (arith, least form (drop (16 + s.0) bytes) qs rs tail rest s.3 moved last)

-- and fewer, if bytes are left
fewer : (form : Form) (bytes : List ℕ) (qs rs : List Record) (tail : List ℕ) → Splits form bytes qs tail → Splits form bytes rs [] → 0 < length tail → length qs < length rs
fewer form bytes [] [] tail s t some = absurd (omega (arith, some, ap length s, ap length t))
fewer form bytes [] (r ∷ rs) tail s t some = omega arith
fewer form bytes (q ∷ qs) [] tail s t some = absurd (omega (arith, (whole_is form bytes s.0 s.1).0, ap length t))
fewer form bytes (q ∷ qs) (r ∷ rs) tail s t some =
    let one = s.1 in
    let two = t.1 in
    let same : t.0 ≡ s.0 = cc in
    let moved = subst (λ n. Splits form (drop (16 + n) bytes) rs []) same t.3 in omega (arith, fewer form (drop (16 + s.0) bytes) qs rs tail s.3 moved some)

-- as many records are the same
equal : (form : Form) (bytes : List ℕ) (qs rs : List Record) (tail rest : List ℕ) → Splits form bytes qs tail → Splits form bytes rs rest → length qs ≡ length rs → qs ≡ rs
equal form bytes [] [] tail rest s t e = refl
equal form bytes [] (r ∷ rs) tail rest s t e = absurd (omega (arith, e))
equal form bytes (q ∷ qs) [] tail rest s t e = absurd (omega (arith, e))
equal form bytes (q ∷ qs) (r ∷ rs) tail rest s t e =
    let one = s.1 in
    let two = t.1 in
    let same : t.0 ≡ s.0 = cc in
    let moved = subst (λ n. (r ≡ record_of form bytes n) × Splits form (drop (16 + n) bytes) rs rest) same (t.2, t.3) in
    let first : q ≡ r = s.2 ∙ sym moved.0 in
    let others = equal form (drop (16 + s.0) bytes) qs rs tail rest s.3 moved.1 (omega (arith, e)) in cc

form_same : (file : List ℕ) (f g : Form) → header_of file ≡ Ok f → header_of file ≡ Ok g → f ≡ g
form_same file f g a b = cc

not_done : (file : List ℕ) (qs rs : List Record) → IsOver file qs → length qs ≡ most_records → IsCapture file rs None → length rs ≤ most_records → ⊥
not_done file qs rs o full c few =
    let same = form_same file c.0 o.form c.1 o.header in
    let splits : Splits o.form (drop 24 file) rs [] = subst (λ f. Splits f (drop 24 file) rs []) same c.2 in
    omega (arith, full, few, fewer o.form (drop 24 file) qs rs o.rest o.splits splits o.more)

not_stopped : (file : List ℕ) (qs rs : List Record) (form : Form) (rest : List ℕ) → IsOver file qs → length qs ≡ most_records → header_of file ≡ Ok form → Splits form (drop 24 file) rs rest → ((n : ℕ) → front_of form rest ≡ Whole n → ⊥) → length rs < most_records → ⊥
not_stopped file qs rs form rest o full h s last few =
    let same = form_same file o.form form o.header h in
    let splits : Splits form (drop 24 file) qs o.rest = subst (λ f. Splits f (drop 24 file) qs o.rest) same o.splits in
    omega (arith, full, few, least form (drop 24 file) qs rs o.rest rest splits s last)

not_bad : (file : List ℕ) (qs rs : List Record) (bad : BadTrace) → IsOver file qs → length qs ≡ most_records → IsCapture file rs (Some bad) → length rs < most_records → ⊥
not_bad file qs rs NotPcap o full c few = let h = o.header in let k = c.0 in absurd (cc (h, k))
not_bad file qs rs Version o full c few = let h = o.header in let k = c.0 in absurd (cc (h, k))
not_bad file qs rs LinkType o full c few = let h = o.header in let k = c.0 in absurd (cc (h, k))
not_bad file qs rs (Cut at) o full c few = let begins = c.0.begins in not_stopped file qs rs c.0.form c.0.rest o full c.0.header c.0.splits (λ n e. cc (e, begins)) few
not_bad file qs rs (Huge at) o full c few = let begins = c.begins in not_stopped file qs rs c.form c.rest o full c.header c.splits (λ n e. cc (e, begins)) few

-- a file gives one ending, after the same records
pub one_ending : (file : List ℕ) (e f : Ending) (rs qs : List Record) → Says file e rs → Says file f qs → (e ≡ f) × (rs ≡ qs)
one_ending file ending.Done ending.Done rs qs a b = (refl, (captures_are_unique file rs qs None None a.0 b.0).0)
one_ending file ending.Done (ending.Trace bad) rs qs a b = absurd (let t = (captures_are_unique file rs qs None (Some bad) a.0 b.0).1 in cc t)
one_ending file ending.Done ending.Records rs qs a b = absurd (not_done file qs rs b.0 b.1 a.0 a.1)
one_ending file (ending.Trace bad) ending.Done rs qs a b = absurd (let t = (captures_are_unique file rs qs (Some bad) None a.0 b.0).1 in cc t)
one_ending file (ending.Trace bad) (ending.Trace other) rs qs a b =
    let t = captures_are_unique file rs qs (Some bad) (Some other) a.0 b.0 in
    let same : bad ≡ other = (let u = t.1 in cc u) in (ap (λ w. ending.Trace w) same, t.0)
one_ending file (ending.Trace bad) ending.Records rs qs a b = absurd (not_bad file qs rs bad b.0 b.1 a.0 a.1)
one_ending file ending.Records ending.Done rs qs a b = absurd (not_done file rs qs a.0 a.1 b.0 b.1)
one_ending file ending.Records (ending.Trace bad) rs qs a b = absurd (not_bad file rs qs bad a.0 a.1 b.0 b.1)
one_ending file ending.Records ending.Records rs qs a b =
    let same = form_same file b.0.form a.0.form b.0.header a.0.header in
    let splits : Splits a.0.form (drop 24 file) qs b.0.rest = subst (λ f. Splits f (drop 24 file) qs b.0.rest) same b.0.splits in (refl, equal a.0.form (drop 24 file) rs qs a.0.rest b.0.rest a.0.splits splits (a.1 ∙ sym b.1))
one_ending file ending.Done ending.Usage rs qs a b = absurd b
one_ending file ending.Done ending.ReadFault rs qs a b = absurd b
one_ending file ending.Done ending.WriteFault rs qs a b = absurd b
one_ending file ending.Done (ending.Policy why) rs qs a b = absurd b
one_ending file ending.Done (ending.Commands why) rs qs a b = absurd b
one_ending file ending.Done ending.Memory rs qs a b = absurd b
one_ending file ending.Done (ending.Report why) rs qs a b = absurd b
one_ending file ending.Done ending.Illegal rs qs a b = absurd b
one_ending file ending.Done (ending.Rows why) rs qs a b = absurd b
one_ending file (ending.Trace bad) ending.Usage rs qs a b = absurd b
one_ending file (ending.Trace bad) ending.ReadFault rs qs a b = absurd b
one_ending file (ending.Trace bad) ending.WriteFault rs qs a b = absurd b
one_ending file (ending.Trace bad) (ending.Policy why) rs qs a b = absurd b
one_ending file (ending.Trace bad) (ending.Commands why) rs qs a b = absurd b
one_ending file (ending.Trace bad) ending.Memory rs qs a b = absurd b
one_ending file (ending.Trace bad) (ending.Report why) rs qs a b = absurd b
one_ending file (ending.Trace bad) ending.Illegal rs qs a b = absurd b
one_ending file (ending.Trace bad) (ending.Rows why) rs qs a b = absurd b
one_ending file ending.Records ending.Usage rs qs a b = absurd b
one_ending file ending.Records ending.ReadFault rs qs a b = absurd b
one_ending file ending.Records ending.WriteFault rs qs a b = absurd b
one_ending file ending.Records (ending.Policy why) rs qs a b = absurd b
one_ending file ending.Records (ending.Commands why) rs qs a b = absurd b
one_ending file ending.Records ending.Memory rs qs a b = absurd b
one_ending file ending.Records (ending.Report why) rs qs a b = absurd b
one_ending file ending.Records ending.Illegal rs qs a b = absurd b
one_ending file ending.Records (ending.Rows why) rs qs a b = absurd b
one_ending file ending.Usage f rs qs a b = absurd a
one_ending file ending.ReadFault f rs qs a b = absurd a
one_ending file ending.WriteFault f rs qs a b = absurd a
one_ending file (ending.Policy why) f rs qs a b = absurd a
one_ending file (ending.Commands why) f rs qs a b = absurd a
one_ending file ending.Memory f rs qs a b = absurd a
one_ending file (ending.Report why) f rs qs a b = absurd a
one_ending file ending.Illegal f rs qs a b = absurd a
one_ending file (ending.Rows why) f rs qs a b = absurd a

-- ---- what was read of a file tells what it says

-- a trace that was read of a file, of which more bytes follow; none do if its end was reached
pub record IsOfFile (file : List ℕ) (t : Trace) : Type 0 where
  pub more : List ℕ
  pub is : file ≡ t.bytes ++ more
  pub all : t.reach ≡ All → file ≡ t.bytes

pub longer : (bytes more : List ℕ) (rs : List Record) (form : Form) (rest : List ℕ) → header_of bytes ≡ Ok form → Splits form (drop 24 bytes) rs rest → Splits form (drop 24 (bytes ++ more)) rs (rest ++ more)
longer bytes more rs form rest h s = rw (drop-append-le 24 bytes more (accepted_long bytes form h)) (Splits-append form (drop 24 bytes) rs rest more s)

pub huge_longer : (bytes more : List ℕ) (rs : List Record) (at : ℕ) → Stops bytes rs at Oversize → Stops (bytes ++ more) rs at Oversize
huge_longer bytes more rs at s = record {
  form = s.form;
  rest = s.rest ++ more;
  header = accepted-append bytes more s.form s.header;
  splits = longer bytes more rs s.form s.rest s.header s.splits;
  place = omega (arith, s.place, length-append s.rest more, length-append bytes more);
  begins = oversize-append s.form s.rest more s.begins;
}

-- what the file says of a trace that is refused by what was read
pub header_longer : (file : List ℕ) (t : Trace) (bad : BadTrace) → IsOfFile file t → header_of t.bytes ≡ Err bad → (t.reach ≡ All) ⊎ (24 ≤ length t.bytes) → header_of file ≡ Err bad
header_longer file t bad i h (inl all) = ap header_of (i.all all) ∙ h
header_longer file t bad i h (inr long) = ap header_of i.is ∙ (header_of-append t.bytes i.more long ∙ h)

pub says_cut : (s : Setting) (file : List ℕ) (t : Trace) (at : ℕ) (text : List ℕ) → IsOfFile file t → t.reach ≡ All → (r : HasBadRecord s t (Cut at) text) → Says file (ending.Trace (Cut at)) r.records
says_cut s file t at text i all r = (subst (λ w. IsCapture w r.records (Some (Cut at))) (sym (i.all all)) r.refused, r.few)

pub says_huge : (s : Setting) (file : List ℕ) (t : Trace) (at : ℕ) (text : List ℕ) → IsOfFile file t → (r : HasBadRecord s t (Huge at) text) → Says file (ending.Trace (Huge at)) r.records
says_huge s file t at text i r = (subst (λ w. Stops w r.records at Oversize) (sym i.is) (huge_longer t.bytes i.more r.records at r.refused), r.few)

pub says_more : (s : Setting) (file : List ℕ) (t : Trace) (text : List ℕ) → IsOfFile file t → (r : HasMore s t text) → Says file ending.Records r.records
says_more s file t text i r = (
  record {
    form = r.stops.form;
    rest = r.stops.rest ++ i.more;
    header = ap header_of i.is ∙ accepted-append t.bytes i.more r.stops.form r.stops.header;
    splits = subst (λ w. Splits r.stops.form (drop 24 w) r.records (r.stops.rest ++ i.more)) (sym i.is) (longer t.bytes i.more r.records r.stops.form r.stops.rest r.stops.header r.stops.splits);
    more = omega (arith, r.more, r.stops.place, length-append r.stops.rest i.more);
  },
  r.full,
)

-- the same of a whole file
pub says_many : (file : List ℕ) (records : List Record) (at : ℕ) (front : Front) → Stops file records at front → at < length file → length records ≡ most_records → Says file ending.Records records
says_many file records at front s more full = (record { form = s.form; rest = s.rest; header = s.header; splits = s.splits; more = omega (arith, more, s.place) }, full)
