-- The checksum after words changed (RFC 1624, equation 3): HC' = ~(~HC + ~m + m'), where a word m becomes m'.
use Rattle.std.specs.Prelude.{◌≡◌, ℕ, ◌-◌, ◌<◌, ◌==◌, List, [], ◌∷◌, ◌++◌, length, sum, if◌then◌else◌}
use Rattle.vsw_header.specs.Sum.{checksum, AreWords}

-- for each place where the lists differ, the complement of the old word and the new word
abbrev pub changes : List ℕ → List ℕ → List ℕ
changes [] ns = []
changes (m ∷ ms) [] = []
changes (m ∷ ms) (n ∷ ns) = if m == n then changes ms ns else (65535 - m) ∷ n ∷ changes ms ns

-- the checksum once the words are the second list, where it was this with the first
abbrev pub update_of : ℕ → List ℕ → List ℕ → ℕ
update_of old ms ns = checksum ((65535 - old) ∷ changes ms ns)

-- the checksum as UDP writes it: 0 says that there is none, so 0xffff stands for it (RFC 768)
abbrev pub written : ℕ → ℕ
written sum = if sum == 0 then 65535 else sum

-- the words xs become ys, and ms and ns have, in order, what differs in them
pub record AreChanged (ms ns xs ys : List ℕ) : Type 0 where
  pub old_words : AreWords xs
  pub new_words : AreWords ys
  pub same_length : length xs ≡ length ys
  pub differ : changes ms ns ≡ changes xs ys

-- a checksum that is right for some words is right, once updated, for what they become, if that isn't all zero
abbrev pub StaysRight : Type 0
StaysRight = (old : ℕ) (ms ns xs ys : List ℕ) → AreChanged ms ns xs ys → 0 < sum ys → old ≡ checksum xs → update_of old ms ns ≡ checksum ys

-- the same of a checksum as UDP writes it
abbrev pub StaysWritten : Type 0
StaysWritten = (old : ℕ) (ms ns xs ys : List ℕ) → AreChanged ms ns xs ys → old ≡ written (checksum xs) → written (update_of old ms ns) ≡ written (checksum ys)

-- a checksum that is right once updated was right before, but for which of the two zeros stands there
abbrev pub WasRight : Type 0
WasRight = (old : ℕ) (ms ns xs ys : List ℕ) → AreChanged ms ns xs ys → AreWords ns → old < 65536 → written (update_of old ms ns) ≡ written (checksum ys) → written old ≡ written (checksum xs)

-- the two zeros of one's complement are one number: 0xffff stands where 0 is right
abbrev pub IsOtherZero : ℕ → ℕ → Type 0
IsOtherZero sum right = (sum ≡ 65535) × (right ≡ 0)

-- words that stand in both lists at the same places change nothing
abbrev pub IgnoresSame : Type 0
IgnoresSame = (first ms ns last : List ℕ) → length ms ≡ length ns → changes (first ++ (ms ++ last)) (first ++ (ns ++ last)) ≡ changes ms ns

-- where no word differs, the checksum stays
abbrev pub KeepsUnchanged : Type 0
KeepsUnchanged = (old : ℕ) (ms : List ℕ) → old < 65536 → update_of old ms ms ≡ old
