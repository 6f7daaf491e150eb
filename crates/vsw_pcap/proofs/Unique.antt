-- Bytes are a capture in one way at most.
use Rattle.std.proofs.Common.{◌≡◌, ◌==◌, ◌⊎◌, ◌-◌, ℕ, ◌+◌, false, List, [], ◌∷◌, length, drop, cond, Option, Some, None, Ok, Err, inl, inr, subst, refl, sym, ◌∙◌, ap, arith}
use Rattle.std.proofs.lemmas.Bool.Decides.{nat_tests}
use Rattle.vsw_pcap.specs.Capture.{header_of, front_of, record_of, Splits, IsCapture}
use Rattle.vsw_pcap.specs.Cutting.{CapturesAreUnique}
use Rattle.vsw_pcap.specs.declared.capture.Form.{Form}
use Rattle.vsw_pcap.specs.declared.capture.Front.{Front}
use Rattle.vsw_pcap.specs.declared.capture.Front.TheVariants.{Whole, Part, Oversize}
use Rattle.vsw_pcap.specs.declared.capture.Record.{Record}
use Rattle.vsw_pcap.specs.declared.fault.BadTrace.{BadTrace}
use Rattle.vsw_pcap.specs.declared.fault.BadTrace.TheVariants.{NotPcap, Version, LinkType, Cut, Huge}

-- no whole record stands at the front
abbrev IsLast : Form → List ℕ → Type 0
IsLast form rest = (n : ℕ) → front_of form rest ≡ Whole n → ⊥

-- records are split off in one way
splits_unique : (form : Form) (bytes : List ℕ) (rs qs : List Record) (rest tail : List ℕ)
    → Splits form bytes rs rest → Splits form bytes qs tail → IsLast form rest → IsLast form tail → (rs ≡ qs) × (rest ≡ tail)
splits_unique form bytes [] [] rest tail s t k l = (refl, sym s ∙ t)
splits_unique form bytes [] (q ∷ qs) rest tail s t k l = absurd (k t.0 (ap (front_of form) (sym s) ∙ t.1))
splits_unique form bytes (r ∷ rs) [] rest tail s t k l = absurd (l s.0 (ap (front_of form) (sym t) ∙ s.1))
splits_unique form bytes (r ∷ rs) (q ∷ qs) rest tail s t k l =
    let one = s.1 in
    let two = t.1 in
    let same : t.0 ≡ s.0 = cc in
    let P : ℕ → Type 0 = λ n. (q ≡ record_of form bytes n) × Splits form (drop (16 + n) bytes) qs tail in
    let moved = subst P same (t.2, t.3) in
    let later = splits_unique form (drop (16 + s.0) bytes) rs qs rest tail s.3 moved.1 k l in
    let first : r ≡ q = s.2 ∙ sym moved.0 in
    let others = later.0 in
    (cc, later.1)

-- the fault where this rest is left of so many bytes
abbrev fault_in : Front → ℕ → ℕ → Option BadTrace
fault_in (Whole n) size left = None
fault_in Oversize size left = Some (Huge (size - left))
fault_in Part size left = cond (left == 0) None (Some (Cut (size - left)))

-- the header is refused, or records were split off up to the last rest
abbrev IsRead : List ℕ → List Record → Option BadTrace → Type 0
IsRead bytes rs fault = ((bad : BadTrace) × (header_of bytes ≡ Err bad) × (rs ≡ []) × (fault ≡ Some bad))
    ⊎ ((form : Form) × (rest : List ℕ) × (header_of bytes ≡ Ok form) × Splits form (drop 24 bytes) rs rest × IsLast form rest × (fault ≡ fault_in (front_of form rest) (length bytes) (length rest)))

read_of : (bytes : List ℕ) (rs : List Record) (fault : Option BadTrace) → IsCapture bytes rs fault → IsRead bytes rs fault
read_of bytes rs None h = inr (h.0, [], h.1, h.2, λ n e. cc, refl)
read_of bytes rs (Some NotPcap) h = inl (NotPcap, h.0, h.1, refl)
read_of bytes rs (Some Version) h = inl (Version, h.0, h.1, refl)
read_of bytes rs (Some LinkType) h = inl (LinkType, h.0, h.1, refl)
read_of bytes rs (Some (Cut at)) h =
    let begins = h.0.begins in
    let place : at ≡ length bytes - length h.0.rest = omega (arith, h.0.place) in
    let test : (length h.0.rest == 0) ≡ false = grind (arith, nat_tests, h.0.place, h.1) in
    inr (h.0.form, h.0.rest, h.0.header, h.0.splits, λ n e. cc, rw (begins, test, place) refl)
read_of bytes rs (Some (Huge at)) h =
    let begins = h.begins in
    let place : at ≡ length bytes - length h.rest = omega (arith, h.place) in
    inr (h.form, h.rest, h.header, h.splits, λ n e. cc, rw (begins, place) refl)

reads_unique : (bytes : List ℕ) (rs qs : List Record) (fault other : Option BadTrace) → IsRead bytes rs fault → IsRead bytes qs other → (rs ≡ qs) × (fault ≡ other)
reads_unique bytes rs qs fault other (inl h) (inl k) = (cc, cc)
reads_unique bytes rs qs fault other (inl h) (inr k) = absurd (cc)
reads_unique bytes rs qs fault other (inr h) (inl k) = absurd (cc)
reads_unique bytes rs qs fault other (inr h) (inr k) =
    let same : k.0 ≡ h.0 = cc in
    let P : Form → Type 0 = λ f. Splits f (drop 24 bytes) qs k.1 × IsLast f k.1 × (other ≡ fault_in (front_of f k.1) (length bytes) (length k.1)) in
    let moved = subst P same (k.3, k.4, k.5) in
    let split = splits_unique h.0 (drop 24 bytes) rs qs h.1 k.1 h.3 moved.0 h.4 moved.1 in
    (split.0, h.5 ∙ ap (λ (t : List ℕ). fault_in (front_of h.0 t) (length bytes) (length t)) split.1 ∙ sym moved.2)

pub captures_are_unique : CapturesAreUnique
captures_are_unique bytes rs qs fault other h k = reads_unique bytes rs qs fault other (read_of bytes rs fault h) (read_of bytes qs other k)
