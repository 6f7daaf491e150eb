-- Packets go from the workload to the batch.
use Rattle.std.proofs.Common.{◌≡◌, ◌≤◌, ◌+◌, ◌-◌, ◌*◌, ◌==◌, ℕ, zero, suc, Bool, true, false, if◌then◌else◌, List, [], ◌∷◌, ◌++◌, length, take, refl, ap, ap₂, sym, ◌∙◌, inl, inr, arith, append_assoc, length-append, length-take}
use Rattle.vsw_generate.specs.Draws.{after, kind_of, size_of}
use Rattle.vsw_generate.specs.Packets.{bytes_of, len_of}
use Rattle.vsw_pcap.specs.declared.capture.Record.{Record}
use Rattle.vsw_run.specs.Generated.{whole_record}
use Rattle.vsw_replay.specs.Draws.{Draws, DrawsOne, records_left}

-- a packet fits the room
pub fits_room : (state : ℕ) → len_of state ≤ 200
fits_room state = by (kind_of state == 3)
  where
    by : (b : Bool) → (if b then size_of state + 92 else size_of state + 42) ≤ 200
    by true = omega arith
    by false = omega arith

-- the record of a packet that stands at the front of a room
record_is : (moment len : ℕ) (room bytes : List ℕ) → len ≤ length room → take len room ≡ bytes → whole_record (moment, bytes) ≡ record { moment = moment; original = len; bytes = take len room }
record_is moment len room bytes le e =
    let size : length bytes ≡ len = omega (arith, ap length (sym e), length-take len room, le) in
    λ i. record { moment = moment; original = size i; bytes = sym e i }

-- a packet was drawn
pub drawn : (old new : ℕ × ℕ × ℕ) (moment len : ℕ) (room : List ℕ) (before batch : List Record) → (old.2 ≡ 0 → ⊥) → moment ≡ 1000 * old.1 → len ≡ len_of old.0 → take len room ≡ bytes_of old.0 → len ≤ length room → new ≡ (after old.0, old.1 + 1, old.2 - 1)
    → batch ≡ before ++ record { moment = moment; original = len; bytes = take len room } ∷ [] → DrawsOne old new before batch true
drawn (state, given, zero) new moment len room before batch some m l b le n is = absurd (some refl)
drawn (state, given, suc left) new moment len room before batch some m l b le n is =
    let r : Record = record { moment = moment; original = len; bytes = take len room } in
    let next : given + 1 ≡ suc given = omega arith in
    let fewer : suc left - 1 ≡ left = omega arith in
    let rest : records_left new ≡ records_left (after state, suc given, left) = ap records_left (n ∙ ap₂ (λ x y. (after state, x, y)) next fewer) in
    let first : r ≡ whole_record (1000 * given, bytes_of state) = sym (ap (λ t. whole_record (t, bytes_of state)) (sym m) ∙ record_is moment len room (bytes_of state) le b) in (
      ap₂ (λ x y. x ++ y) is rest ∙ (append_assoc before (r ∷ []) (records_left (after state, suc given, left)) ∙ ap (λ q. before ++ q ∷ records_left (after state, suc given, left)) first),
      ap length is ∙ length-append before (r ∷ []),
      ap (λ w. w.2 + 1) n ∙ omega arith,
    )

-- a packet more, or none
pub draws_more : (start old new : ℕ × ℕ × ℕ) (before batch : List Record) → DrawsOne old new before batch true → before ++ records_left old ≡ records_left start → batch ++ records_left new ≡ records_left start
draws_more start old new before batch d e = d.0 ∙ e

pub draws_none : (start old new : ℕ × ℕ × ℕ) (before batch : List Record) → DrawsOne old new before batch false → before ++ records_left old ≡ records_left start → length before + old.2 ≡ start.2 → length before ≤ 1024 → Draws start new batch
draws_none start old new before batch d e count most = record {
  is = ap₂ (λ x y. x ++ records_left y) d.1 d.0 ∙ e;
  count = ap₂ (λ x y. length x + y.2) d.1 d.0 ∙ count;
  most = omega (arith, ap length d.1, most);
  whole = inr (ap (λ y. y.2) d.0 ∙ d.2);
}

pub draws_all : (start new : ℕ × ℕ × ℕ) (batch : List Record) → batch ++ records_left new ≡ records_left start → length batch + new.2 ≡ start.2 → length batch ≤ 1024 → 1024 ≤ length batch → Draws start new batch
draws_all start new batch e count most least = record { is = e; count = count; most = most; whole = inl (omega (arith, most, least)) }
