-- More bytes at the end change neither an accepted header nor what was found whole.
use Rattle.std.proofs.Common.{◌≡◌, ◌≤◌, ◌<◌, ℕ, ◌+◌, false, List, [], ◌∷◌, ◌++◌, length, take, drop, Option, Some, None, option_map, Result, Ok, Err, subst, refl, sym, ◌∙◌, ap, arith, nat_lt}
use Rattle.std.proofs.lemmas.List.{drop-append-le, take-append-le, length-drop, length-append}
use Rattle.std.proofs.lemmas.Bool.Decides.{nat_tests}
use Rattle.byteorder.specs.Numbers.{big_from-append, little_from-append}
use Rattle.vsw_pcap.specs.Capture.{number, fraction_of, form_of, tested, header_of, captured_of, front_of, record_of, Splits}
use Rattle.vsw_pcap.specs.declared.capture.Order.{Order}
use Rattle.vsw_pcap.specs.declared.capture.Order.TheVariants.{Little, Big}
use Rattle.vsw_pcap.specs.declared.capture.Form.{Form}
use Rattle.vsw_pcap.specs.declared.capture.Front.TheVariants.{Whole, Oversize}
use Rattle.vsw_pcap.specs.declared.capture.Record.{Record}
use Rattle.vsw_pcap.specs.declared.fault.BadTrace.{BadTrace}
use Rattle.vsw_pcap.specs.declared.fault.BadTrace.TheVariants.{NotPcap, Cut, Huge}

pub number-append : (o : Order) (n at : ℕ) (xs ys : List ℕ) → at + n ≤ length xs → number o n (drop at (xs ++ ys)) ≡ number o n (drop at xs)
number-append Little n at xs ys h = ap (number Little n) (drop-append-le at xs ys (omega arith)) ∙ little_from-append n (drop at xs) ys (omega (arith, length-drop at xs))
number-append Big n at xs ys h = ap (number Big n) (drop-append-le at xs ys (omega arith)) ∙ big_from-append n (drop at xs) ys (omega (arith, length-drop at xs))

-- the form that these numbers tell, the magic in either order
abbrev form_by : ℕ → ℕ → Option Form
form_by low high = elim (fraction_of low) [
  | Some f ↦ Some (record { order = Little; fraction = f })
  | None ↦ option_map (λ f. record { order = Big; fraction = f }) (fraction_of high)
]

pub form_of-append : (xs ys : List ℕ) → 24 ≤ length xs → form_of (xs ++ ys) ≡ form_of xs
form_of-append xs ys h =
    let low : number Little 4 (xs ++ ys) ≡ number Little 4 xs = little_from-append 4 xs ys (omega arith) in
    let high : number Big 4 (xs ++ ys) ≡ number Big 4 xs = big_from-append 4 xs ys (omega arith) in
    ap (λ (n : ℕ). form_by n (number Big 4 (xs ++ ys))) low ∙ ap (form_by (number Little 4 xs)) high

pub tested-append : (xs ys : List ℕ) (form : Form) → 24 ≤ length xs → tested (xs ++ ys) form ≡ tested xs form
tested-append xs ys form h =
    let a = number-append form.order 2 4 xs ys (omega arith) in
    let b = number-append form.order 2 6 xs ys (omega arith) in
    let c = number-append form.order 4 20 xs ys (omega arith) in
    rw (a, b, c) refl

-- a record that is whole
pub whole_is : (form : Form) (xs : List ℕ) (n : ℕ) → front_of form xs ≡ Whole n → (16 + n ≤ length xs) × (captured_of form xs ≡ n) × (n ≤ 262144)
whole_is form xs n h = grind (arith, nat_tests)

pub whole_by : (form : Form) (xs : List ℕ) (n : ℕ) → 16 + n ≤ length xs → captured_of form xs ≡ n → n ≤ 262144 → front_of form xs ≡ Whole n
whole_by form xs n h e l = grind (arith, nat_tests)

pub oversize_is : (form : Form) (xs : List ℕ) → front_of form xs ≡ Oversize → (16 ≤ length xs) × (262144 < captured_of form xs)
oversize_is form xs h = grind (arith, nat_tests)

pub oversize_by : (form : Form) (xs : List ℕ) → 16 ≤ length xs → 262144 < captured_of form xs → front_of form xs ≡ Oversize
oversize_by form xs h l = grind (arith, nat_tests)

-- the tests after the length's
abbrev header_from : List ℕ → Option Form → Result Form BadTrace
header_from bytes None = Err NotPcap
header_from bytes (Some form) = tested bytes form

long_header : (bytes : List ℕ) → 24 ≤ length bytes → header_of bytes ≡ header_from bytes (form_of bytes)
long_header bytes h = let e : nat_lt (length bytes) 24 ≡ false = grind (arith, nat_tests) in rw (e, header_of) refl

header_from-append : (xs ys : List ℕ) (o : Option Form) → 24 ≤ length xs → header_from (xs ++ ys) o ≡ header_from xs o
header_from-append xs ys None h = refl
header_from-append xs ys (Some form) h = tested-append xs ys form h

-- more bytes don't change what a whole header says
pub header_of-append : (xs ys : List ℕ) → 24 ≤ length xs → header_of (xs ++ ys) ≡ header_of xs
header_of-append xs ys h =
    let long : 24 ≤ length (xs ++ ys) = omega (arith, length-append xs ys) in
    long_header (xs ++ ys) long ∙ ap (header_from (xs ++ ys)) (form_of-append xs ys h) ∙ header_from-append xs ys (form_of xs) h ∙ sym (long_header xs h)

-- a header's fault is one of the first three
tested_not_cut : (bytes : List ℕ) (form : Form) (at : ℕ) → tested bytes form ≡ Err (Cut at) → ⊥
tested_not_cut bytes form at h = grind (arith, nat_tests)

tested_not_huge : (bytes : List ℕ) (form : Form) (at : ℕ) → tested bytes form ≡ Err (Huge at) → ⊥
tested_not_huge bytes form at h = grind (arith, nat_tests)

pub not_cut : (bytes : List ℕ) (at : ℕ) → header_of bytes ≡ Err (Cut at) → ⊥
not_cut bytes at h = grind (arith, nat_tests)

pub not_huge : (bytes : List ℕ) (at : ℕ) → header_of bytes ≡ Err (Huge at) → ⊥
not_huge bytes at h = grind (arith, nat_tests)

-- an accepted header is whole
pub accepted_long : (bytes : List ℕ) (form : Form) → header_of bytes ≡ Ok form → 24 ≤ length bytes
accepted_long bytes form h = grind (arith, nat_tests)

pub accepted-append : (xs ys : List ℕ) (form : Form) → header_of xs ≡ Ok form → header_of (xs ++ ys) ≡ Ok form
accepted-append xs ys form h = header_of-append xs ys (accepted_long xs form h) ∙ h

-- more bytes don't change a record that is whole, or one whose captured length is too great
pub whole-append : (form : Form) (xs ys : List ℕ) (n : ℕ) → front_of form xs ≡ Whole n → front_of form (xs ++ ys) ≡ Whole n
whole-append form xs ys n h =
    let w = whole_is form xs n h in
    whole_by form (xs ++ ys) n (omega (arith, length-append xs ys, w.0)) (number-append form.order 4 8 xs ys (omega (arith, w.0)) ∙ w.1) w.2

pub oversize-append : (form : Form) (xs ys : List ℕ) → front_of form xs ≡ Oversize → front_of form (xs ++ ys) ≡ Oversize
oversize-append form xs ys h =
    let w = oversize_is form xs h in
    let same = number-append form.order 4 8 xs ys (omega (arith, w.0)) in
    oversize_by form (xs ++ ys) (omega (arith, length-append xs ys, w.0)) (omega (arith, same, w.1))

pub record_of-append : (form : Form) (xs ys : List ℕ) (n : ℕ) → 16 + n ≤ length xs → record_of form (xs ++ ys) n ≡ record_of form xs n
record_of-append form xs ys n h =
    let seconds : number form.order 4 (xs ++ ys) ≡ number form.order 4 xs = number-append form.order 4 0 xs ys (omega arith) in
    let fraction = number-append form.order 4 4 xs ys (omega arith) in
    let original = number-append form.order 4 12 xs ys (omega arith) in
    let part : take n (drop 16 (xs ++ ys)) ≡ take n (drop 16 xs) = ap (take n) (drop-append-le 16 xs ys (omega arith)) ∙ take-append-le n (drop 16 xs) ys (omega (arith, length-drop 16 xs)) in
    rw (seconds, fraction, original, part) refl

pub Splits-append : (form : Form) (bytes : List ℕ) (rs : List Record) (rest ys : List ℕ) → Splits form bytes rs rest → Splits form (bytes ++ ys) rs (rest ++ ys)
Splits-append form bytes [] rest ys s = ap (λ (t : List ℕ). t ++ ys) s
Splits-append form bytes (r ∷ rs) rest ys s =
    let n = s.0 in
    let w = whole_is form bytes n s.1 in
    let later = Splits-append form (drop (16 + n) bytes) rs rest ys s.3 in
    (n, whole-append form bytes ys n s.1, s.2 ∙ sym (record_of-append form bytes ys n w.0), rw (drop-append-le (16 + n) bytes ys w.0) later)

-- one record more
pub Splits-more : (form : Form) (bytes : List ℕ) (rs : List Record) (rest : List ℕ) (n : ℕ) → Splits form bytes rs rest → front_of form rest ≡ Whole n → Splits form bytes (rs ++ record_of form rest n ∷ []) (drop (16 + n) rest)
Splits-more form bytes [] rest n s e = let P : List ℕ → Type 0 = λ t. Splits form t (record_of form rest n ∷ []) (drop (16 + n) rest) in subst P (sym s) (n, e, refl, refl)
Splits-more form bytes (r ∷ rs) rest n s e = (s.0, s.1, s.2, Splits-more form (drop (16 + s.0) bytes) rs rest n s.3 e)
