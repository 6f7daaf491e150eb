-- The checksums of an inner frame whose addresses and ports change.
use Rattle.std.proofs.Common.{◌≡◌, ℕ, zero, suc, ◌^◌, ◌≤◌, ◌<◌, List, [], ◌∷◌, ◌++◌, take, drop, Ok, refl, sym, ◌∙◌, ap, subst, arith, length, length-take, ◌⊎◌}
use Rattle.std.proofs.lemmas.List.{take-append-drop}
use Rattle.std.proofs.Math.Seq.{take-append_seam}
use Rattle.vsw_base.specs.Ipv4.{IpFields, ip_header, ip_of}
use Rattle.vsw_header.specs.Sum.{AreBytes, checksum, words_of}
use Rattle.vsw_header.specs.IpChange.{ip_changed}
use Rattle.vsw_header.specs.Update.{IsOtherZero}
use Rattle.vsw_header.specs.IpRight.{IsHeader, IsRight, header_checksum, header_words}
use Rattle.vsw_header.proofs.IpRight.{ip_stays_right, ip_stays_wrong}
use Rattle.vsw_frame.proofs.Alike.{ip_bounds}
use Rattle.vsw_frame.proofs.Rewritten.{changed_before, ip_changed-length, ip_version}
use Rattle.vsw_frame.proofs.RewrittenPacket.{packet_with}

-- a checksum is of the header alone
abbrev bare : List ℕ → List ℕ
bare head = words_of (take 10 head ++ (0 ∷ 0 ∷ drop 12 head))

header_is : (head rest : List ℕ) → 20 ≤ length head → ip_header head ≡ length head → (header_words (head ++ rest) ≡ bare head) × (header_checksum (head ++ rest) ≡ header_checksum head)
header_is (b0 ∷ b1 ∷ b2 ∷ b3 ∷ b4 ∷ b5 ∷ b6 ∷ b7 ∷ b8 ∷ b9 ∷ c0 ∷ c1 ∷ c2 ∷ c3 ∷ c4 ∷ c5 ∷ c6 ∷ c7 ∷ c8 ∷ c9 ∷ tail) rest l n =
    let head = b0 ∷ b1 ∷ b2 ∷ b3 ∷ b4 ∷ b5 ∷ b6 ∷ b7 ∷ b8 ∷ b9 ∷ c0 ∷ c1 ∷ c2 ∷ c3 ∷ c4 ∷ c5 ∷ c6 ∷ c7 ∷ c8 ∷ c9 ∷ tail in
    let cut : take (ip_header head) (head ++ rest) ≡ head = ap (λ (k : ℕ). take k (head ++ rest)) n ∙ take-append_seam head rest in
    (ap (λ (xs : List ℕ). words_of (b0 ∷ b1 ∷ b2 ∷ b3 ∷ b4 ∷ b5 ∷ b6 ∷ b7 ∷ b8 ∷ b9 ∷ 0 ∷ 0 ∷ drop 12 xs)) cut, refl)
header_is head rest l n = absurd (omega (arith, l))

right_before : (head xs ys : List ℕ) → 20 ≤ length head → ip_header head ≡ length head → IsRight (head ++ xs) → IsRight (head ++ ys)
right_before head xs ys l n h =
    let a = header_is head xs l n in
    let b = header_is head ys l n in
    b.1 ∙ sym a.1 ∙ h ∙ ap checksum a.0 ∙ sym (ap checksum b.0)

first_kept : (a b : ℕ) (bytes : List ℕ) → 20 ≤ length bytes → ip_header (ip_changed a b bytes) ≡ ip_header bytes
first_kept a b (b0 ∷ b1 ∷ b2 ∷ b3 ∷ b4 ∷ b5 ∷ b6 ∷ b7 ∷ b8 ∷ b9 ∷ rest) l = refl
first_kept a b bytes l = absurd (omega (arith, l))

first_taken : (n : ℕ) (bytes : List ℕ) → 20 ≤ n → ip_header (take n bytes) ≡ ip_header bytes
first_taken zero bytes h = absurd (omega (arith, h))
first_taken (suc n) [] h = refl
first_taken (suc n) (x ∷ xs) h = refl

-- a changed header before its own segment and before another
record Headed (a b : ℕ) (bytes : List ℕ) : Type 0 where
  long : 20 ≤ length (ip_changed a b (take (ip_header bytes) bytes))
  whole : ip_header (ip_changed a b (take (ip_header bytes) bytes)) ≡ length (ip_changed a b (take (ip_header bytes) bytes))
  same : ip_changed a b bytes ≡ ip_changed a b (take (ip_header bytes) bytes) ++ drop (ip_header bytes) bytes

headed : (a b : ℕ) (bytes : List ℕ) (i : IpFields) → ip_of bytes ≡ Ok i → Headed a b bytes
headed a b bytes i h =
    let s = ip_bounds bytes i h in
    let n = ip_header bytes in
    let k : length (take n bytes) ≡ n = omega (arith, length-take n bytes, s.1, s.2) in
    let long : 20 ≤ length (take n bytes) = omega (arith, k, s.0) in
    let l = ip_changed-length a b (take n bytes) long in
    record {
      long = omega (arith, l, long);
      whole = first_kept a b (take n bytes) long ∙ first_taken n bytes s.0 ∙ sym (l ∙ k);
      same = ap (ip_changed a b) (sym (take-append-drop n bytes)) ∙ changed_before a b (take n bytes) (drop n bytes) long;
    }

is_header : (bytes : List ℕ) (i : IpFields) → ip_of bytes ≡ Ok i → IsHeader bytes
is_header bytes i h = let s = ip_bounds bytes i h in record { version = ip_version bytes i h; least = s.0; whole = omega (arith, s.1, s.2) }

-- IPv4's checksum, whatever segment stands behind it
pub packet_right : (a b : ℕ) (bytes : List ℕ) (f : List ℕ → List ℕ) (i : IpFields) → a < 2 ^ 32 → b < 2 ^ 32 → AreBytes bytes → ip_of bytes ≡ Ok i → IsRight bytes → IsRight (packet_with a b bytes f)
packet_right a b bytes f i ha hb are h e =
    let w = headed a b bytes i h in
    let head = ip_changed a b (take (ip_header bytes) bytes) in
    let seg = drop (ip_header bytes) bytes in
    right_before head seg (f seg) w.long w.whole (subst IsRight w.same (ip_stays_right a b bytes ha hb are (is_header bytes i h) e))

pub packet_wrong : (a b : ℕ) (bytes : List ℕ) (f : List ℕ → List ℕ) (i : IpFields) → a < 2 ^ 32 → b < 2 ^ 32 → AreBytes bytes → ip_of bytes ≡ Ok i → IsRight (packet_with a b bytes f) → IsRight bytes ⊎ IsOtherZero (header_checksum bytes) (checksum (header_words bytes))
packet_wrong a b bytes f i ha hb are h e =
    let w = headed a b bytes i h in
    let head = ip_changed a b (take (ip_header bytes) bytes) in
    let seg = drop (ip_header bytes) bytes in
    ip_stays_wrong a b bytes ha hb are (is_header bytes i h) (subst IsRight (sym w.same) (right_before head (f seg) seg w.long w.whole e))

pub whole_right : (a b : ℕ) (bytes : List ℕ) (i : IpFields) → a < 2 ^ 32 → b < 2 ^ 32 → AreBytes bytes → ip_of bytes ≡ Ok i → IsRight bytes → IsRight (ip_changed a b bytes)
whole_right a b bytes i ha hb are h e = ip_stays_right a b bytes ha hb are (is_header bytes i h) e

pub whole_wrong : (a b : ℕ) (bytes : List ℕ) (i : IpFields) → a < 2 ^ 32 → b < 2 ^ 32 → AreBytes bytes → ip_of bytes ≡ Ok i → IsRight (ip_changed a b bytes) → IsRight bytes ⊎ IsOtherZero (header_checksum bytes) (checksum (header_words bytes))
whole_wrong a b bytes i ha hb are h e = ip_stays_wrong a b bytes ha hb are (is_header bytes i h) e
