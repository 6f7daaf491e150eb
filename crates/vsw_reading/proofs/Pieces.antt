-- A piece more of a trace.
use Rattle.std.proofs.Common.{◌≡◌, ◌<◌, ◌≤◌, ℕ, ◌+◌, List, [], ◌++◌, false, Ok, Err, min, length, take, drop, refl, sym, ◌∙◌, ap, subst, arith, append-nil, length-append, length-take, length-drop, take_all, ◌∷◌}
use Rattle.std.proofs.lemmas.List.{take-append-le, drop_all}
use Rattle.std.proofs.Math.Seq.{take-append-add}
use borrow.Rule.Slice.PartMut.{put_mid}
use Rattle.vsw_base.specs.declared.fault.NoMemory.{NoMemory}
use Rattle.vsw_host.specs.Outside.{Outside, Rose}
use Rattle.vsw_host.specs.Source.{IsReading, NextPiece}
use Rattle.vsw_host.specs.Told.{ReadsAll}
use Rattle.vsw_host.specs.declared.host.Failed.{Failed}
use Rattle.vsw_pcap.specs.Progress.{Progress}
use Rattle.vsw_pcap.specs.Reader.{Stands, fed_with}
use Rattle.vsw_pcap.specs.declared.capture.Record.{Record}
use Rattle.vsw_reading.specs.declared.reading.Reading.{Reading}
use Rattle.vsw_reading.specs.declared.reading.Stop.TheVariants as stop
use Rattle.vsw_reading.specs.Reads.{IsRead, IsBehind, Peeks}
use Rattle.vsw_pcap.proofs.Standing.{Stands_fed}
use Rattle.vsw_reading.specs.Private.Steps.{ReadsBehind, Counts}

-- a count that rose since rose since before
rose_since : (start old now : ℕ) → start ≤ old → Rose old now → Rose start now
rose_since start old now le r = omega (arith, le, r)

-- the front of a room behind the bytes in hand, when a slice of it was written
pub behind : (a k n : ℕ) (xs ys : List ℕ) → a ≤ length xs → n ≤ length ys → take (a + n) (put_mid a k xs ys) ≡ take a xs ++ take n ys
behind a k n xs ys le fits =
    let size : a ≡ length (take a xs) = omega (arith, length-take a xs, le) in
    ap (λ (m : ℕ). take (m + n) (put_mid a k xs ys)) size
    ∙ take-append-add (take a xs) (ys ++ drop k (drop a xs)) n
    ∙ ap (λ (l : List ℕ). take a xs ++ l) (take-append-le n ys (drop k (drop a xs)) fits)

-- a room that was written as a slice
whole_room : (m : ℕ) (xs items : List ℕ) → length xs ≡ m → length items ≡ m → take m (xs ++ drop (length xs) items) ≡ xs
whole_room m xs items e f =
    ap (λ (l : List ℕ). take m (xs ++ l)) (drop_all (length xs) items (omega (arith, e, f)))
    ∙ ap (λ (l : List ℕ). take m l) (append-nil xs)
    ∙ take_all m xs (omega (arith, e))

-- a reader that has again the bytes that it lent, and a piece behind them
pub fed_so : (p : Progress) (a k n m : ℕ) (items xs ys : List ℕ) → a ≡ length p.left → take (length p.left) items ≡ p.left → xs ≡ items → length items ≡ m → a + k ≤ m → length ys ≡ k → n ≤ length ys
    → record p { left = take (a + n) (take m (put_mid a k xs ys ++ drop (length (put_mid a k xs ys)) items)) } ≡ fed_with (take n ys) p
fed_so p a k n m items xs ys size same e f long g fits =
    let le : a ≤ length xs = omega (arith, ap (λ (l : List ℕ). length l) e, f, long) in
    let whole : length (put_mid a k xs ys) ≡ m = omega (arith, length-append (take a xs) (ys ++ drop k (drop a xs)), length-append ys (drop k (drop a xs)), length-take a xs, length-drop k (drop a xs), length-drop a xs, ap (λ (l : List ℕ). length l) e, f, long, g) in
    ap (λ (l : List ℕ). record p { left = take (a + n) l }) (whole_room m (put_mid a k xs ys) items whole f)
    ∙ ap (λ (l : List ℕ). record p { left = l }) (behind a k n xs ys le fits ∙ ap (λ (l : List ℕ). take a l ++ take n ys) e ∙ ap (λ (j : ℕ). take j items ++ take n ys) size ∙ ap (λ (l : List ℕ). l ++ take n ys) same)

-- the host couldn't read
pub piece_fault : (start old now : Outside) (name : List ℕ) (r : Reading) (p : Progress) (e : Failed) (bytes : List ℕ) (records : List Record) → r.reader.finished ≡ false → ReadsBehind old now r.source.file r.reader p (Ok (Err e)) → IsRead start old name r bytes records
    → IsRead start now name (record r { reader = p }) bytes records × Rose start.input_faults now.input_faults
piece_fault start old now name r p e bytes records going b h = (
  record {
    reading = b.0.2 start name bytes h.reading;
    stands = subst (λ q. Stands q bytes records) (sym b.1) h.stands;
    seen = h.seen;
    end = λ t. absurd (cc (t, going, b.1));
  },
  rose_since start.input_faults old.input_faults now.input_faults h.reading.later b.0.1,
)

-- a piece was read behind the bytes in hand
pub piece_taken : (start old now : Outside) (name : List ℕ) (r new : Reading) (p : Progress) (n : ℕ) (bytes : List ℕ) (records : List Record) → ReadsBehind old now r.source.file r.reader p (Ok (Ok n)) → Counts (record r { reader = p }) new n → new.source ≡ r.source → IsRead start old name r bytes records
    → (more : List ℕ) × IsRead start now name new (bytes ++ more) records
piece_taken start old now name r new p n bytes records b counts same h =
    let piece : List ℕ = take n b.0 in
    let got = b.1.2 start name bytes h.reading in
    let fits : n ≤ length b.0 = b.1.1 in
    let size : length bytes + n ≡ length (bytes ++ piece) = omega (arith, fits, length-take n b.0, length-append bytes piece) in (
      piece,
      record {
        reading = subst (λ k. IsReading start now name k (bytes ++ piece)) (ap (λ x. x.file) (sym same)) got.reading;
        stands = counts.stands (bytes ++ piece) records (subst (λ q. Stands q (bytes ++ piece) records) (sym b.2) (Stands_fed r.reader piece bytes records h.stands));
        seen = counts.seen (length bytes) h.seen ∙ ap (λ k. min 24 k) size;
        end = λ t. let none : piece ≡ [] = ap (λ k. take k b.0) (counts.end t) in subst (λ w. ReadsAll start.inputs now.inputs name w) (sym (ap (λ w. bytes ++ w) none ∙ append-nil bytes)) (got.end none);
      },
    )

-- there was no memory for a piece
pub piece_unread : (start old now : Outside) (name : List ℕ) (r : Reading) (p : Progress) (e : NoMemory) (bytes : List ℕ) (records : List Record) → ReadsBehind old now r.source.file r.reader p (Err e) → IsRead start old name r bytes records → IsBehind start now name (record r { reader = p }) records
piece_unread start old now name r p e bytes records b h = record {
  bytes = bytes;
  more = [];
  reading = subst (λ o. IsReading start o name r.source.file (bytes ++ [])) (sym b.0) (subst (λ w. IsReading start old name r.source.file w) (sym (append-nil bytes)) h.reading);
  stands = subst (λ q. Stands q bytes records) (sym b.1) h.stands;
}

pub none_left : {A : Type 0} (xs : List A) → length xs ≤ 0 → xs ≡ []
none_left [] le = refl
none_left (x ∷ xs) le = absurd (omega (arith, le))

-- a byte is in hand
pub peek_left : (start now : Outside) (name : List ℕ) (r : Reading) (bytes : List ℕ) (records : List Record) → 0 < length r.reader.left → IsRead start now name r bytes records → Peeks start now name r bytes stop.Full
peek_left start now name r bytes records lt h = ([], subst (λ b. IsReading start now name r.source.file b) (sym (append-nil bytes)) h.reading, omega (arith, lt, length-append r.reader.left []))

-- the host couldn't read
pub peek_fault : (start old now : Outside) (name : List ℕ) (r : Reading) (room : List ℕ) (e : Failed) (bytes : List ℕ) (records : List Record) → length r.reader.left ≤ 0 → NextPiece old now r.source.file room (Err e) → IsRead start old name r bytes records → Peeks start now name r bytes stop.Fault
peek_fault start old now name r room e bytes records none next h = (none_left r.reader.left none, rose_since start.input_faults old.input_faults now.input_faults h.reading.later next.1, next.2 start name bytes h.reading)

-- the file ended
pub peek_end : (start old now : Outside) (name : List ℕ) (r : Reading) (room : List ℕ) (n : ℕ) (bytes : List ℕ) (records : List Record) → length r.reader.left ≤ 0 → NextPiece old now r.source.file room (Ok n) → n ≡ 0 → IsRead start old name r bytes records → Peeks start now name r bytes stop.End
peek_end start old now name r room n bytes records none next zero h =
    let got = next.2 start name bytes h.reading in
    let nothing : take n room ≡ [] = ap (λ k. take k room) zero in (
      none_left r.reader.left none,
      got.end nothing,
      subst (λ b. IsReading start now name r.source.file b) (ap (λ p. bytes ++ p) nothing ∙ append-nil bytes) got.reading,
    )

-- a byte was read
pub peek_more : (start old now : Outside) (name : List ℕ) (r : Reading) (room : List ℕ) (n : ℕ) (bytes : List ℕ) (records : List Record) → NextPiece old now r.source.file room (Ok n) → 0 < n → IsRead start old name r bytes records → Peeks start now name r bytes stop.Full
peek_more start old now name r room n bytes records next some h =
    let got = next.2 start name bytes h.reading in (take n room, got.reading, omega (arith, some, next.1, length-take n room, length-append r.reader.left (take n room)))
