-- Fields of a word.
use Rattle.std.proofs.Common.{◌≡◌, ℕ, ◌+◌, ◌*◌, ◌/◌, ◌%◌, ◌^◌, ◌<◌, ◌==◌, List, [], ◌∷◌, refl, arith, true, false, Bool}
use Rattle.std.proofs.lemmas.Nat.{mod-mul-add, div-mul-add}
use Rattle.vsw_words.specs.Key.{joined, bit}
use Rattle.vsw_words.specs.Id.{split}

-- each field is below its bound
abbrev pub Below : List ℕ → List ℕ → Type 0
Below [] [] = Unit {0}
Below [] (x ∷ xs) = ⊥
Below (m ∷ ms) [] = ⊥
Below (m ∷ ms) (x ∷ xs) = (x < m) × Below ms xs

-- fields that were joined are read back
pub split_joined : (ms xs : List ℕ) → Below ms xs → split ms (joined ms xs) ≡ xs
split_joined [] [] h = refl
split_joined [] (x ∷ xs) h = absurd h
split_joined (m ∷ ms) [] h = absurd h
split_joined (m ∷ ms) (x ∷ xs) h = rw (mod-mul-add (joined ms xs) m x h.0, div-mul-add (joined ms xs) m x h.0, split_joined ms xs h.1) refl

-- the halves of a word
pub high_is : (a b : ℕ) → b < 2 ^ 32 → (a * 2 ^ 32 + b) / 2 ^ 32 ≡ a
high_is a b h = div-mul-add a (2 ^ 32) b h

pub low_is : (a b : ℕ) → b < 2 ^ 32 → (a * 2 ^ 32 + b) % 2 ^ 32 ≡ b
low_is a b h = mod-mul-add a (2 ^ 32) b h

-- a number from its halves of 64 bits
pub whole_is : (a : ℕ) → a / 2 ^ 64 * 2 ^ 64 + a % 2 ^ 64 ≡ a
whole_is a = omega arith

pub bit_is : (q : Bool) → (bit q == 1) ≡ q
bit_is true = refl
bit_is false = refl

pub bit_small : (q : Bool) → bit q < 2
bit_small true = omega arith
bit_small false = omega arith
