-- What becomes of header checksums where addresses change.
use Rattle.std.proofs.Common.{◌≡◌, ℕ, suc, ◌+◌, ◌*◌, ◌-◌, ◌/◌, ◌%◌, ◌^◌, ◌<◌, ◌≤◌, List, [], ◌∷◌, ◌++◌, refl, sym, ◌∙◌, ap, subst, arith, length, length-append, sum, take, drop, ◌⊎◌}
use Rattle.std.proofs.lemmas.List.{drop-take}
use Rattle.std.proofs.lemmas.List.Sums.{sum_by-cons}
use Rattle.std.proofs.Math.Seq.{take-add}
use Rattle.byteorder.specs.Endian.{big_number}
use Rattle.vsw_base.specs.Ipv4.{ip_header}
use Rattle.vsw_header.specs.Sum.{AreBytes, AreWords, checksum, words_of}
use Rattle.vsw_header.specs.Update.{AreChanged, IsOtherZero, written}
use Rattle.vsw_header.proofs.Changed.{ignores_same, stays_right}
use Rattle.vsw_header.proofs.Folds.{are_words, sum_is}
use Rattle.vsw_header.specs.IpChange.{address_words, checksum_changed, ip_changed}
use Rattle.vsw_header.specs.IpRight.{IsHeader, StaysRight, StaysWrong, header_checksum, header_words}
use Rattle.vsw_header.proofs.Zeros.{was_right, zeros}
use Rattle.vsw_header.proofs.Bytes.{bytes_taken}

high_is : (k : ℕ) → k < 2 ^ 32 → 256 * (k / 16777216 % 256) + k / 65536 % 256 ≡ k / 65536
high_is k h = omega arith

low_is : (k : ℕ) → 256 * (k / 256 % 256) + k % 256 ≡ k % 65536
low_is k = omega arith

-- the words in front of the addresses
abbrev front : List ℕ → List ℕ
front bytes = words_of (take 10 bytes ++ (0 ∷ 0 ∷ []))

-- the words of the options
abbrev options : List ℕ → List ℕ
options bytes = words_of (take (ip_header bytes - 20) (drop 20 bytes))

-- a header's words with these addresses
abbrev words : List ℕ → ℕ → ℕ → List ℕ
words bytes src dst = front bytes ++ (address_words src dst ++ options bytes)

abbrev HeaderWords : ℕ → ℕ → List ℕ → Type 0
HeaderWords src dst bytes =
    (header_words bytes ≡ words bytes (big_number 4 (drop 12 bytes)) (big_number 4 (drop 16 bytes)))
    × (header_words (ip_changed src dst bytes) ≡ words bytes src dst)
    × (header_checksum (ip_changed src dst bytes) ≡ checksum_changed src dst bytes)
    × AreWords (words bytes (big_number 4 (drop 12 bytes)) (big_number 4 (drop 16 bytes)))
    × AreWords (words bytes src dst)
    × (0 < sum (words bytes src dst))
    × (0 < sum (words bytes (big_number 4 (drop 12 bytes)) (big_number 4 (drop 16 bytes))))
    × (header_checksum bytes < 65536)

-- what stands behind the checksum
behind : (n : ℕ) (bytes tail rest : List ℕ) → 20 ≤ n → drop 12 bytes ≡ tail ++ rest → length tail ≡ 8 → drop 12 (take n bytes) ≡ take 8 (tail ++ rest) ++ take (n - 20) (drop 8 (tail ++ rest))
behind n bytes tail rest h d l =
    ap (λ (m : ℕ). drop 12 (take m bytes)) (omega (arith, h)) ∙ drop-take 12 (8 + (n - 20)) bytes ∙ ap (take (8 + (n - 20))) d ∙ take-add 8 (n - 20) (tail ++ rest)

four_words : (s s' t t' d d' e e' : ℕ) (first last : List ℕ) → s ≡ s' → t ≡ t' → d ≡ d' → e ≡ e' → first ++ (s ∷ t ∷ d ∷ e ∷ last) ≡ first ++ (s' ∷ t' ∷ d' ∷ e' ∷ last)
four_words s s' t t' d d' e e' first last p q r u = rw (p, q, r, u) refl

-- a header of these bytes before options
at_ten : (n b0 b1 b2 b3 b4 b5 b6 b7 b8 b9 k0 k1 s0 s1 s2 s3 d0 d1 d2 d3 : ℕ) (rest : List ℕ) (src dst : ℕ) → 20 ≤ n
    → 256 * s0 + s1 ≡ src / 65536 → 256 * s2 + s3 ≡ src % 65536 → 256 * d0 + d1 ≡ dst / 65536 → 256 * d2 + d3 ≡ dst % 65536
    → words_of (b0 ∷ b1 ∷ b2 ∷ b3 ∷ b4 ∷ b5 ∷ b6 ∷ b7 ∷ b8 ∷ b9 ∷ 0 ∷ 0 ∷ drop 12 (take n (b0 ∷ b1 ∷ b2 ∷ b3 ∷ b4 ∷ b5 ∷ b6 ∷ b7 ∷ b8 ∷ b9 ∷ k0 ∷ k1 ∷ s0 ∷ s1 ∷ s2 ∷ s3 ∷ d0 ∷ d1 ∷ d2 ∷ d3 ∷ rest)))
    ≡ words_of (b0 ∷ b1 ∷ b2 ∷ b3 ∷ b4 ∷ b5 ∷ b6 ∷ b7 ∷ b8 ∷ b9 ∷ 0 ∷ 0 ∷ []) ++ (address_words src dst ++ words_of (take (n - 20) rest))
at_ten n b0 b1 b2 b3 b4 b5 b6 b7 b8 b9 k0 k1 s0 s1 s2 s3 d0 d1 d2 d3 rest src dst h p q r u =
    let first = b0 ∷ b1 ∷ b2 ∷ b3 ∷ b4 ∷ b5 ∷ b6 ∷ b7 ∷ b8 ∷ b9 ∷ 0 ∷ 0 ∷ [] in
    let tail = s0 ∷ s1 ∷ s2 ∷ s3 ∷ d0 ∷ d1 ∷ d2 ∷ d3 ∷ [] in
    let cut = behind n (b0 ∷ b1 ∷ b2 ∷ b3 ∷ b4 ∷ b5 ∷ b6 ∷ b7 ∷ b8 ∷ b9 ∷ k0 ∷ k1 ∷ s0 ∷ s1 ∷ s2 ∷ s3 ∷ d0 ∷ d1 ∷ d2 ∷ d3 ∷ rest) tail rest h refl refl in
    ap (λ (xs : List ℕ). words_of (first ++ xs)) cut
    ∙ four_words (256 * s0 + s1) (src / 65536) (256 * s2 + s3) (src % 65536) (256 * d0 + d1) (dst / 65536) (256 * d2 + d3) (dst % 65536) (words_of first) (words_of (take (n - 20) rest)) p q r u

addresses_fit : (src dst : ℕ) (last : List ℕ) → src < 2 ^ 32 → dst < 2 ^ 32 → AreWords last → AreWords (address_words src dst ++ last)
addresses_fit src dst last s d w = (omega (arith, s), (omega arith, (omega (arith, d), (omega arith, w))))

header_are : (src dst : ℕ) (bytes : List ℕ) → src < 2 ^ 32 → dst < 2 ^ 32 → AreBytes bytes → IsHeader bytes → HeaderWords src dst bytes
header_are src dst (b0 ∷ b1 ∷ b2 ∷ b3 ∷ b4 ∷ b5 ∷ b6 ∷ b7 ∷ b8 ∷ b9 ∷ k0 ∷ k1 ∷ s0 ∷ s1 ∷ s2 ∷ s3 ∷ d0 ∷ d1 ∷ d2 ∷ d3 ∷ rest) hs hd are h =
    let bytes = b0 ∷ b1 ∷ b2 ∷ b3 ∷ b4 ∷ b5 ∷ b6 ∷ b7 ∷ b8 ∷ b9 ∷ k0 ∷ k1 ∷ s0 ∷ s1 ∷ s2 ∷ s3 ∷ d0 ∷ d1 ∷ d2 ∷ d3 ∷ rest in
    let a = big_number 4 (drop 12 bytes) in
    let b = big_number 4 (drop 16 bytes) in
    let n = ip_header bytes in
    let sum = checksum_changed src dst bytes in
    let fits : sum < 65536 = omega arith in
    let a_fits : a < 2 ^ 32 = omega (arith, are 12, are 13, are 14, are 15) in
    let b_fits : b < 2 ^ 32 = omega (arith, are 16, are 17, are 18, are 19) in
    let last : AreWords (options bytes) = are_words (take (n - 20) rest) (bytes_taken (n - 20) rest (λ i. are (suc (suc (suc (suc (suc (suc (suc (suc (suc (suc (suc (suc (suc (suc (suc (suc (suc (suc (suc (suc i)))))))))))))))))))))) in
    let w0 : 256 * b0 + b1 < 65536 = omega (arith, are 0, are 1) in
    let w1 : 256 * b2 + b3 < 65536 = omega (arith, are 2, are 3) in
    let w2 : 256 * b4 + b5 < 65536 = omega (arith, are 4, are 5) in
    let w3 : 256 * b6 + b7 < 65536 = omega (arith, are 6, are 7) in
    let w4 : 256 * b8 + b9 < 65536 = omega (arith, are 8, are 9) in
    let v : 0 < 256 * b0 + b1 = omega (arith, h.version) in (
      at_ten n b0 b1 b2 b3 b4 b5 b6 b7 b8 b9 k0 k1 s0 s1 s2 s3 d0 d1 d2 d3 rest a b h.least
          (omega (arith, are 13, are 14, are 15)) (omega (arith, are 14, are 15)) (omega (arith, are 17, are 18, are 19)) (omega (arith, are 18, are 19)),
      at_ten n b0 b1 b2 b3 b4 b5 b6 b7 b8 b9 (sum / 256 % 256) (sum % 256) (src / 16777216 % 256) (src / 65536 % 256) (src / 256 % 256) (src % 256) (dst / 16777216 % 256) (dst / 65536 % 256) (dst / 256 % 256) (dst % 256) rest src dst h.least
          (high_is src hs) (low_is src) (high_is dst hd) (low_is dst),
      omega (arith, fits),
      (w0, (w1, (w2, (w3, (w4, (omega arith, addresses_fit a b (options bytes) a_fits b_fits last)))))),
      (w0, (w1, (w2, (w3, (w4, (omega arith, addresses_fit src dst (options bytes) hs hd last)))))),
      omega (arith, v, sum_by-cons (λ (x : ℕ). x) (256 * b0 + b1) ((256 * b2 + b3) ∷ (256 * b4 + b5) ∷ (256 * b6 + b7) ∷ (256 * b8 + b9) ∷ 0 ∷ (address_words src dst ++ options bytes))),
      omega (arith, v, sum_by-cons (λ (x : ℕ). x) (256 * b0 + b1) ((256 * b2 + b3) ∷ (256 * b4 + b5) ∷ (256 * b6 + b7) ∷ (256 * b8 + b9) ∷ 0 ∷ (address_words a b ++ options bytes))),
      omega (arith, are 10, are 11),
    )
header_are src dst bytes hs hd are h = absurd (omega (arith, h.least, h.whole))

changed : (first last : List ℕ) (a b src dst : ℕ) → AreWords (first ++ (address_words a b ++ last)) → AreWords (first ++ (address_words src dst ++ last)) → AreChanged (address_words a b) (address_words src dst) (first ++ (address_words a b ++ last)) (first ++ (address_words src dst ++ last))
changed first last a b src dst f g = record {
  old_words = f;
  new_words = g;
  same_length = omega (arith, length-append first (address_words a b ++ last), length-append first (address_words src dst ++ last));
  differ = sym (ignores_same first (address_words a b) (address_words src dst) last refl);
}

pub ip_stays_right : StaysRight
ip_stays_right src dst bytes hs hd are h e =
    let w = header_are src dst bytes hs hd are h in
    let a = big_number 4 (drop 12 bytes) in
    let b = big_number 4 (drop 16 bytes) in
    let c = changed (front bytes) (options bytes) a b src dst w.3 w.4 in
    w.2 ∙ stays_right (header_checksum bytes) (address_words a b) (address_words src dst) (words bytes a b) (words bytes src dst) c w.5 (e ∙ ap checksum w.0) ∙ ap checksum (sym w.1)

some_sum : (ws : List ℕ) → AreWords ws → 0 < sum ws → checksum ws < 65535
some_sum ws h z = grind (arith, z, sum_is ws h)

address_fit : (src dst : ℕ) → src < 2 ^ 32 → dst < 2 ^ 32 → AreWords (address_words src dst)
address_fit src dst hs hd = addresses_fit src dst [] hs hd tt

pub ip_stays_wrong : StaysWrong
ip_stays_wrong src dst bytes hs hd are h e =
    let w = header_are src dst bytes hs hd are h in
    let a = big_number 4 (drop 12 bytes) in
    let b = big_number 4 (drop 16 bytes) in
    let old = header_checksum bytes in
    let ws = words bytes a b in
    let c = changed (front bytes) (options bytes) a b src dst w.3 w.4 in
    let was = was_right old (address_words a b) (address_words src dst) ws (words bytes src dst) c (address_fit src dst hs hd) w.7 (ap written (sym w.2 ∙ e ∙ ap checksum w.1)) in
    let P : List ℕ → Type 0 = λ ws. (old ≡ checksum ws) ⊎ IsOtherZero old (checksum ws) in
    subst P (sym w.0) (zeros old (checksum ws) (some_sum ws w.3 w.6) was)
