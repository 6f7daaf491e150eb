-- A weighted sum that is taken one word at a time.
use Rattle.std.proofs.Common.{◌≡◌, ◌<◌, ◌≤◌, ◌+◌, ◌*◌, ◌%◌, ◌^◌, ℕ, List, refl, arith, length, drop, get_or}
use Rattle.std.proofs.lemmas.List.{drop_more}
use Rattle.vsw_words.specs.Slot.{factors, weighted}

first_apart : (fs ks : List ℕ) (i : ℕ) → i < length fs → i < length ks → weighted (drop i fs) (drop i ks) ≡ get_or fs i 0 * get_or ks i 0 + weighted (drop (i + 1) fs) (drop (i + 1) ks)
first_apart fs ks i l m = rw (drop_more fs i 0 l, drop_more ks i 0 m) refl

-- the first word of those that are left is added
pub word_added : (fs ks : List ℕ) (i t u s : ℕ) → i < length fs → i < length ks → u ≡ (t + get_or fs i 0 * get_or ks i 0) % 2 ^ 64
    → (t + weighted (drop i fs) (drop i ks)) % 2 ^ 64 ≡ s → (u + weighted (drop (i + 1) fs) (drop (i + 1) ks)) % 2 ^ 64 ≡ s
word_added fs ks i t u s l m e h = after (get_or fs i 0 * get_or ks i 0) (weighted (drop (i + 1) fs) (drop (i + 1) ks)) (weighted (drop i fs) (drop i ks)) e (first_apart fs ks i l m) h where
  after : (p r w : ℕ) → u ≡ (t + p) % 2 ^ 64 → w ≡ p + r → (t + w) % 2 ^ 64 ≡ s → (u + r) % 2 ^ 64 ≡ s
  after p r w e f h = omega (arith, e, f, h)

-- no word is left
pub all_added : (ks : List ℕ) (i t s : ℕ) → 15 ≤ i → i ≤ 15 → t < 2 ^ 64 → (t + weighted (drop i factors) (drop i ks)) % 2 ^ 64 ≡ s % 2 ^ 64 → t ≡ s % 2 ^ 64
all_added ks i t s l m n h =
    let e : i ≡ 15 = omega (arith, l, m) in
    let z : weighted (drop i factors) (drop i ks) ≡ 0 = rw (e) refl in
    omega (arith, z, n, h)
