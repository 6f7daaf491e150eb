-- Numbers of a file, printed as they were read.
use Rattle.std.proofs.Common.{◌≡◌, ◌≤◌, ◌<◌, ◌+◌, ◌*◌, ◌/◌, ◌%◌, ◌^◌, ℕ, zero, suc, List, [], ◌∷◌, ◌++◌, length, take, drop, refl, ap, sym, ◌∙◌, arith}
use Rattle.std.proofs.Math.Nat.{div-div-eq-div-mul, div-one, pow-succ'}
use Rattle.std.proofs.lemmas.List.{drop-drop, length-drop, nil_from_length, take-append-drop}
use Rattle.std.specs.Int.{byte_at, bytes_low_first}
use Rattle.std.specs.List.{flat_map}
use Rattle.byteorder.specs.Endian.{IsRead, big_bytes, big_number, little_bytes, little_from, little_number}
use Rattle.byteorder.specs.Numbers.{little_from-cons, little_from-lt}
use Rattle.vsw_header.specs.Sum.{AreBytes}
use Rattle.vsw_offload.specs.Bad.{words_in}
use Rattle.vsw_policy.specs.Sound.{Each}

byte_pow : (k x : ℕ) → byte_at k x ≡ x / 256 ^ k % 256
byte_pow zero x = ap (λ (y : ℕ). y % 256) (sym (div-one x))
byte_pow (suc k) x = refl

byte_shift : (k x : ℕ) → byte_at (suc k) x ≡ byte_at k (x / 256)
byte_shift k x = ap (λ (y : ℕ). y % 256) (ap (λ (p : ℕ). x / p) (pow-succ' 256 k) ∙ sym (div-div-eq-div-mul x 256 (256 ^ k))) ∙ sym (byte_pow k (x / 256))

low_shift : (i n x : ℕ) → bytes_low_first (suc i) n x ≡ bytes_low_first i n (x / 256)
low_shift i zero x = refl
low_shift i (suc n) x = (λ z. byte_shift i x z ∷ low_shift (suc i) n x z)

-- a number's bytes are those that it was read from
pub little_back : (n : ℕ) (xs : List ℕ) → n ≤ length xs → AreBytes xs → little_bytes n (little_number n xs) ≡ take n xs
little_back zero xs h bs = refl
little_back (suc n) [] h bs = absurd (omega (arith, h))
little_back (suc n) (b ∷ xs) h bs =
    let m : ℕ = little_from 0 n xs in
    let is : little_from 0 (suc n) (b ∷ xs) ≡ b + 256 * m = ap (λ (r : ℕ). b + 256 * r) (little_from-cons 0 n b xs) in
    let below : b < 256 = bs 0 in
    let first : (b + 256 * m) % 256 ≡ b = omega (arith, below) in
    let rest : (b + 256 * m) / 256 ≡ m = omega (arith, below) in
    let ih : bytes_low_first 0 n m ≡ take n xs = little_back n xs (omega (arith, h)) (λ k. bs (suc k)) in
    let tail : bytes_low_first 1 n (b + 256 * m) ≡ take n xs = low_shift 0 n (b + 256 * m) ∙ (ap (bytes_low_first 0 n) rest ∙ ih) in
    ap (bytes_low_first 0 (suc n)) is ∙ (λ z. first z ∷ tail z)

-- six bytes, the highest first
pub six_back : (xs : List ℕ) → 6 ≤ length xs → AreBytes xs → big_bytes 6 (big_number 6 xs) ≡ take 6 xs
six_back [] h bs = absurd (omega (arith, h))
six_back (a ∷ []) h bs = absurd (omega (arith, h))
six_back (a ∷ b ∷ []) h bs = absurd (omega (arith, h))
six_back (a ∷ b ∷ c ∷ []) h bs = absurd (omega (arith, h))
six_back (a ∷ b ∷ c ∷ d ∷ []) h bs = absurd (omega (arith, h))
six_back (a ∷ b ∷ c ∷ d ∷ e ∷ []) h bs = absurd (omega (arith, h))
six_back (a ∷ b ∷ c ∷ d ∷ e ∷ f ∷ rest) h bs = six a b c d e f (bs 0) (bs 1) (bs 2) (bs 3) (bs 4) (bs 5)
  where
    six : (a b c d e f : ℕ) → a < 256 → b < 256 → c < 256 → d < 256 → e < 256 → f < 256 → big_bytes 6 (a * 256 ^ 5 + (b * 256 ^ 4 + (c * 256 ^ 3 + (d * 256 ^ 2 + (e * 256 ^ 1 + (f * 256 ^ 0 + 0)))))) ≡ a ∷ b ∷ c ∷ d ∷ e ∷ f ∷ []
    six a b c d e f p q r s t u =
        let x : ℕ = a * 256 ^ 5 + (b * 256 ^ 4 + (c * 256 ^ 3 + (d * 256 ^ 2 + (e * 256 ^ 1 + (f * 256 ^ 0 + 0))))) in
        let i : byte_at 5 x ≡ a = omega (arith, p, q, r, s, t, u) in
        let j : byte_at 4 x ≡ b = omega (arith, p, q, r, s, t, u) in
        let k : byte_at 3 x ≡ c = omega (arith, p, q, r, s, t, u) in
        let l : byte_at 2 x ≡ d = omega (arith, p, q, r, s, t, u) in
        let m : byte_at 1 x ≡ e = omega (arith, p, q, r, s, t, u) in
        let n : byte_at 0 x ≡ f = omega (arith, p, q, r, s, t, u) in
        (λ z. i z ∷ j z ∷ k z ∷ l z ∷ m z ∷ n z ∷ [])

bytes_drop : (n : ℕ) (xs : List ℕ) → AreBytes xs → AreBytes (drop n xs)
bytes_drop zero xs bs = bs
bytes_drop (suc n) [] bs = bs
bytes_drop (suc n) (x ∷ xs) bs = bytes_drop n xs (λ k. bs (suc k))

-- what was read word by word, from the second word on
read_on : (w : ℕ) (ws src : List ℕ) → IsRead little_number 8 src (w ∷ ws) → IsRead little_number 8 (drop 8 src) ws
read_on w ws src r k lt =
    let at : 8 * suc k ≡ 8 + 8 * k = omega arith in
    r (suc k) (omega (arith, lt)) ∙ ap (λ (n : ℕ). little_number 8 (drop n src)) at ∙ ap (little_number 8) (sym (drop-drop (8 * k) 8 src))

-- words that were read, as the definition has them
pub words_are : (n : ℕ) (ws src : List ℕ) → length ws ≡ n → IsRead little_number 8 src ws → ws ≡ words_in n src
words_are zero ws src l r = nil_from_length ws l
words_are (suc n) [] src l r = absurd (omega (arith, l))
words_are (suc n) (w ∷ ws) src l r = (λ z. r 0 (omega arith) z ∷ words_are n ws (drop 8 src) (omega (arith, l)) (read_on w ws src r) z)

-- their bytes are those that they were read from
pub words_back : (n : ℕ) (src : List ℕ) → length src ≡ 8 * n → AreBytes src → flat_map (little_bytes 8) (words_in n src) ≡ src
words_back zero src l bs = sym (nil_from_length src (omega (arith, l)))
words_back (suc n) src l bs =
    let first : little_bytes 8 (little_number 8 src) ≡ take 8 src = little_back 8 src (omega (arith, l)) bs in
    let rest : flat_map (little_bytes 8) (words_in n (drop 8 src)) ≡ drop 8 src = words_back n (drop 8 src) (omega (arith, l, length-drop 8 src)) (bytes_drop 8 src bs) in
    (λ z. first z ++ rest z) ∙ take-append-drop 8 src

pub words_below : (n : ℕ) (src : List ℕ) → AreBytes src → Each (λ w. w < 2 ^ 64) (words_in n src)
words_below zero src bs = tt
words_below (suc n) src bs =
    let first : little_number 8 src < 256 ^ 8 = little_from-lt 0 8 src bs in
    (omega (arith, first), words_below n (drop 8 src) (bytes_drop 8 src bs))
