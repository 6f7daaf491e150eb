-- Deferred carries (RFC 1071, section 2): a sum of words may grow past 16 bits, and is folded at the end.
use Rattle.std.specs.Prelude.{◌≡◌, ℕ, ◌+◌, ◌-◌, ◌/◌, ◌%◌, ◌==◌, List, [], ◌∷◌, sum, if◌then◌else◌}
use Rattle.vsw_header.specs.Sum.{AreWords}
use Rattle.vsw_header.specs.Update.{changes}

-- the word that a number folds to: 0 for 0 alone, and else from 1 to 65,535, with the number's remainder by 65,535
abbrev pub fold_of : ℕ → ℕ
fold_of n = if n == 0 then 0 else (n - 1) % 65535 + 1

-- the words of a number of 32 bits
abbrev pub long_words : ℕ → List ℕ
long_words n = n / 65536 ∷ n % 65536 ∷ []

-- a sum, once the words ms became ns: it folds like the old one with what differs added
pub record HasChanged (total : ℕ) (ms ns : List ℕ) (new : ℕ) : Type 0 where
  pub words : AreWords ns
  pub folds : fold_of new ≡ fold_of (total + sum (changes ms ns))
