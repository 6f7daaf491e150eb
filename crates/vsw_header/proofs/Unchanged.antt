-- An IPv4 header whose addresses stay is as it was.
use Rattle.std.proofs.Common.{◌≡◌, ℕ, ◌/◌, ◌%◌, ◌^◌, ◌<◌, ◌≤◌, List, [], ◌∷◌, sym, arith, length, drop}
use Rattle.byteorder.specs.Endian.{big_number}
use Rattle.vsw_header.specs.Sum.{AreBytes}
use Rattle.vsw_header.specs.Update.{update_of}
use Rattle.vsw_header.specs.IpChange.{address_words, checksum_changed, ip_changed}
use Rattle.vsw_header.proofs.Changed.{keeps_unchanged}

stays : (old a b src dst : ℕ) → old < 65536 → src ≡ a → dst ≡ b → update_of old (address_words a b) (address_words src dst) ≡ old
stays old a b src dst h e f = rw (e, f) (keeps_unchanged old (address_words a b) h)

pub ip_stays : (src dst : ℕ) (bytes : List ℕ) → AreBytes bytes → 20 ≤ length bytes → src ≡ big_number 4 (drop 12 bytes) → dst ≡ big_number 4 (drop 16 bytes) → ip_changed src dst bytes ≡ bytes
ip_stays src dst (b0 ∷ b1 ∷ b2 ∷ b3 ∷ b4 ∷ b5 ∷ b6 ∷ b7 ∷ b8 ∷ b9 ∷ c0 ∷ c1 ∷ s0 ∷ s1 ∷ s2 ∷ s3 ∷ d0 ∷ d1 ∷ d2 ∷ d3 ∷ rest) h l e f =
    let bytes = b0 ∷ b1 ∷ b2 ∷ b3 ∷ b4 ∷ b5 ∷ b6 ∷ b7 ∷ b8 ∷ b9 ∷ c0 ∷ c1 ∷ s0 ∷ s1 ∷ s2 ∷ s3 ∷ d0 ∷ d1 ∷ d2 ∷ d3 ∷ rest in
    let k = checksum_changed src dst bytes in
    let old : k ≡ big_number 2 (c0 ∷ c1 ∷ []) = stays (big_number 2 (drop 10 bytes)) (big_number 4 (drop 12 bytes)) (big_number 4 (drop 16 bytes)) src dst (omega (arith, h 10, h 11)) e f in
    let p : c0 ≡ k / 256 % 256 = omega (arith, old, h 10, h 11) in
    let q : c1 ≡ k % 256 = omega (arith, old, h 10, h 11) in
    let s : s0 ≡ src / 2 ^ 24 % 256 = omega (arith, e, h 12, h 13, h 14, h 15) in
    let t : s1 ≡ src / 2 ^ 16 % 256 = omega (arith, e, h 12, h 13, h 14, h 15) in
    let u : s2 ≡ src / 256 % 256 = omega (arith, e, h 12, h 13, h 14, h 15) in
    let v : s3 ≡ src % 256 = omega (arith, e, h 12, h 13, h 14, h 15) in
    let w : d0 ≡ dst / 2 ^ 24 % 256 = omega (arith, f, h 16, h 17, h 18, h 19) in
    let x : d1 ≡ dst / 2 ^ 16 % 256 = omega (arith, f, h 16, h 17, h 18, h 19) in
    let y : d2 ≡ dst / 256 % 256 = omega (arith, f, h 16, h 17, h 18, h 19) in
    let z : d3 ≡ dst % 256 = omega (arith, f, h 16, h 17, h 18, h 19) in
    let whole : bytes ≡ ip_changed src dst bytes = cc (p, q, s, t, u, v, w, x, y, z) in
    sym whole
ip_stays src dst bytes h l e f = absurd (omega (arith, l))
