-- Records by marks among bytes that grow at their end.
use Rattle.std.proofs.Common.{◌≡◌, ◌≤◌, ◌<◌, ◌-◌, ℕ, zero, suc, List, [], ◌∷◌, ◌++◌, Some, length, take, drop, refl, subst, ◌∙◌, ap, arith}
use Rattle.std.proofs.lemmas.List.{drop-append-le, take-append-le, take_all, length-append, length-drop}
use Rattle.std.proofs.lemmas.Option.{slice_get_read}
use Rattle.std.proofs.Math.ListN.{get_or}
use Rattle.std.proofs.Math.Seq.{drop-append_seam}
use Rattle.std.specs.List.{slice_get}
use Rattle.vsw_pcap.specs.Marks.{marked, all_marked, IsWithin, AreWithin}
use Rattle.vsw_pcap.specs.declared.batch.Mark.{Mark}
use Rattle.vsw_pcap.specs.declared.capture.Record.{Record}

pub length-all_marked : (bytes : List ℕ) (ms : List Mark) → length (all_marked bytes ms) ≡ length ms
length-all_marked bytes [] = refl
length-all_marked bytes (m ∷ ms) = ap suc (length-all_marked bytes ms)

-- the mark at a place lies within, and its record stands there
at_mark : (n : ℕ) (bytes : List ℕ) (ms : List Mark) (k : ℕ) (m : Mark) → AreWithin n ms → slice_get ms k ≡ Some m → IsWithin n m × (slice_get (all_marked bytes ms) k ≡ Some (marked bytes m))
at_mark n bytes [] k m w e = absurd (cc)
at_mark n bytes (x ∷ ms) zero m w e = let same : x ≡ m = cc in let P : Mark → Type 0 = λ t. IsWithin n t × (Some (marked bytes x) ≡ Some (marked bytes t)) in subst P same (w.0, refl)
at_mark n bytes (x ∷ ms) (suc k) m w e = at_mark n bytes ms k m w.1 e

-- the same of a mark that was read there
pub mark_at : (n : ℕ) (bytes : List ℕ) (ms : List Mark) (k : ℕ) (m : Mark) → AreWithin n ms → k < length ms → m ≡ get_or ms k m → IsWithin n m × (slice_get (all_marked bytes ms) k ≡ Some (marked bytes m))
mark_at n bytes ms k m w i e = at_mark n bytes ms k m w (slice_get_read ms (length ms) k m refl i e)

marked-append : (xs ys : List ℕ) (m : Mark) → IsWithin (length xs) m → marked (xs ++ ys) m ≡ marked xs m
marked-append xs ys m w =
    let bytes : take (m.end - m.begin) (drop m.begin (xs ++ ys)) ≡ take (m.end - m.begin) (drop m.begin xs) =
    ap (take (m.end - m.begin)) (drop-append-le m.begin xs ys (omega (arith, w.0, w.1))) ∙ take-append-le (m.end - m.begin) (drop m.begin xs) ys (omega (arith, w.0, w.1, length-drop m.begin xs)) in
    ap (λ (t : List ℕ). let r : Record = record { moment = m.moment; original = m.original; bytes = t } in r) bytes

all_marked-append : (xs ys : List ℕ) (ms : List Mark) → AreWithin (length xs) ms → all_marked (xs ++ ys) ms ≡ all_marked xs ms
all_marked-append xs ys [] w = refl
all_marked-append xs ys (m ∷ ms) w =
    let first = marked-append xs ys m w.0 in
    let rest = all_marked-append xs ys ms w.1 in
    cc

all_marked-more : (bytes : List ℕ) (ms : List Mark) (m : Mark) → all_marked bytes (ms ++ m ∷ []) ≡ all_marked bytes ms ++ marked bytes m ∷ []
all_marked-more bytes [] m = refl
all_marked-more bytes (x ∷ ms) m = ap (λ (t : List Record). marked bytes x ∷ t) (all_marked-more bytes ms m)

AreWithin-more : (n k : ℕ) (ms : List Mark) (m : Mark) → n ≤ k → AreWithin n ms → IsWithin k m → AreWithin k (ms ++ m ∷ [])
AreWithin-more n k [] m le w here = (here, tt)
AreWithin-more n k (x ∷ ms) m le w here = ((w.0.0, omega (arith, w.0.1)), AreWithin-more n k ms m le w.1 here)

-- a mark of the bytes that were appended
pub within_push : (xs ys : List ℕ) (ms : List Mark) (m : Mark) → AreWithin (length xs) ms → m.begin ≡ length xs → m.end ≡ length (xs ++ ys) → AreWithin (length (xs ++ ys)) (ms ++ m ∷ [])
within_push xs ys ms m w b e =
    let longer = length-append xs ys in
    AreWithin-more (length xs) (length (xs ++ ys)) ms m (omega arith) w (omega arith, omega arith)

pub all_marked-push : (xs ys : List ℕ) (ms : List Mark) (m : Mark) → AreWithin (length xs) ms → m.begin ≡ length xs → m.end ≡ length (xs ++ ys)
    → all_marked (xs ++ ys) (ms ++ m ∷ []) ≡ all_marked xs ms ++ record { moment = m.moment; original = m.original; bytes = ys } ∷ []
all_marked-push xs ys ms m w b e =
    let count : m.end - m.begin ≡ length ys = omega (arith, length-append xs ys) in
    let bytes : take (m.end - m.begin) (drop m.begin (xs ++ ys)) ≡ ys = rw (count, b, drop-append_seam) (take_all (length ys) ys (omega arith)) in
    let last : marked (xs ++ ys) m ≡ record { moment = m.moment; original = m.original; bytes = ys } = ap (λ (t : List ℕ). let r : Record = record { moment = m.moment; original = m.original; bytes = t } in r) bytes in
    let front = all_marked-append xs ys ms w in
    all_marked-more (xs ++ ys) ms m ∙ (let same : all_marked (xs ++ ys) ms ++ marked (xs ++ ys) m ∷ [] ≡ all_marked xs ms ++ record { moment = m.moment; original = m.original; bytes = ys } ∷ [] = cc in same)
