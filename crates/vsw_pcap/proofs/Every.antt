-- All bytes are a capture in some way.
use Rattle.std.proofs.Common.{◌≡◌, ◌≤◌, ◌<◌, ◌==◌, ◌-◌, ℕ, zero, suc, ◌+◌, Bool, true, false, List, [], ◌∷◌, length, drop, Option, Some, None, Result, Ok, Err, subst, refl, arith}
use Rattle.std.proofs.lemmas.List.{length-drop, nil_from_length}
use Rattle.std.proofs.lemmas.Bool.Decides.{nat_tests}
use Rattle.vsw_pcap.specs.Capture.{header_of, front_of, record_of, Splits, IsCapture}
use Rattle.vsw_pcap.specs.Cutting.{EachIsACapture}
use Rattle.vsw_pcap.specs.declared.capture.Form.{Form}
use Rattle.vsw_pcap.specs.declared.capture.Front.{Front}
use Rattle.vsw_pcap.specs.declared.capture.Front.TheVariants.{Whole, Part, Oversize}
use Rattle.vsw_pcap.specs.declared.capture.Record.{Record}
use Rattle.vsw_pcap.specs.declared.fault.BadTrace.{BadTrace}
use Rattle.vsw_pcap.specs.declared.fault.BadTrace.TheVariants.{Cut, Huge}
use Rattle.vsw_pcap.proofs.Format.{whole_is}
use Rattle.vsw_pcap.proofs.Standing.{refused_is}

-- all whole records are split off
abbrev SplitsAll : Form → List ℕ → Type 0
SplitsAll form bytes = (rs : List Record) × (rest : List ℕ) × Splits form bytes rs rest × ((n : ℕ) → front_of form rest ≡ Whole n → ⊥)

split_front : (form : Form) (size : ℕ) (bytes : List ℕ) (f : Front) → ((later : List ℕ) → length later < size → SplitsAll form later)
    → front_of form bytes ≡ f → length bytes ≤ size → SplitsAll form bytes
split_front form size bytes (Whole n) shorter e l =
    let fits = whole_is form bytes n e in
    let later = shorter (drop (16 + n) bytes) (omega (arith, fits.0, length-drop (16 + n) bytes)) in
    (record_of form bytes n ∷ later.0, later.1, (n, e, refl, later.2), later.3)
split_front form size bytes Part shorter e l = ([], bytes, refl, λ n w. cc)
split_front form size bytes Oversize shorter e l = ([], bytes, refl, λ n w. cc)

split_all : (form : Form) (size : ℕ) (bytes : List ℕ) → length bytes ≤ size → SplitsAll form bytes
split_all form zero bytes l = split_front form zero bytes (front_of form bytes) (λ later s. absurd (omega arith)) refl l
split_all form (suc size) bytes l = split_front form (suc size) bytes (front_of form bytes) (λ later s. split_all form size later (omega arith)) refl l

Splits-shorter : (form : Form) (bytes : List ℕ) (rs : List Record) (rest : List ℕ) → Splits form bytes rs rest → length rest ≤ length bytes
Splits-shorter form bytes [] rest s = let e : bytes ≡ rest = s in rw e (omega arith)
Splits-shorter form bytes (r ∷ rs) rest s = omega (arith, Splits-shorter form (drop (16 + s.0) bytes) rs rest s.3, length-drop (16 + s.0) bytes)

-- some records and some end or fault
abbrev HasReading : List ℕ → Type 0
HasReading bytes = (rs : List Record) × (fault : Option BadTrace) × IsCapture bytes rs fault

by_rest : (bytes : List ℕ) (form : Form) (rs : List Record) (rest : List ℕ) (f : Front) (none : Bool) → header_of bytes ≡ Ok form → Splits form (drop 24 bytes) rs rest
    → ((n : ℕ) → front_of form rest ≡ Whole n → ⊥) → front_of form rest ≡ f → (length rest == 0) ≡ none → length rest ≤ length bytes → HasReading bytes
by_rest bytes form rs rest (Whole n) none h s last e t l = absurd (last n e)
by_rest bytes form rs rest Oversize none h s last e t l =
    (rs, Some (Huge (length bytes - length rest)), record { form = form; rest = rest; header = h; splits = s; place = omega arith; begins = e })
by_rest bytes form rs rest Part false h s last e t l =
    let some : 0 < length rest = grind (arith, nat_tests) in
    (rs, Some (Cut (length bytes - length rest)), (record { form = form; rest = rest; header = h; splits = s; place = omega arith; begins = e }, omega arith))
by_rest bytes form rs rest Part true h s last e t l =
    let empty : rest ≡ [] = nil_from_length rest (grind (arith, nat_tests)) in
    let P : List ℕ → Type 0 = λ x. Splits form (drop 24 bytes) rs x in
    (rs, None, (form, h, subst P empty s))

by_header : (bytes : List ℕ) (header : Result Form BadTrace) → header_of bytes ≡ header → HasReading bytes
by_header bytes (Err bad) h = ([], Some bad, refused_is bytes [] bad h refl)
by_header bytes (Ok form) h =
    let all = split_all form (length (drop 24 bytes)) (drop 24 bytes) (omega arith) in
    let short = Splits-shorter form (drop 24 bytes) all.0 all.1 all.2 in
    by_rest bytes form all.0 all.1 (front_of form all.1) (length all.1 == 0) h all.2 all.3 refl refl (omega (arith, short, length-drop 24 bytes))

pub each_is_a_capture : EachIsACapture
each_is_a_capture bytes = by_header bytes (header_of bytes) refl
