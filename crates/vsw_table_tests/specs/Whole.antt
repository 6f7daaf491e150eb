-- What the stories of the tests owe as stories.
use Rattle.std.proofs.Common.{◌≡◌, ◌<◌, ◌≤◌, ℕ, ◌==◌, true, List, slice_index_or, arith, eq-eqb}
use Rattle.std.proofs.lemmas.Map.Views.{exact_unsigned_eq}
use Rattle.vsw_stamps.specs.Order.{word_at}

-- all 73 words of a row are in use
pub whole_row : (row : List ℕ) (turn : ℕ) → 73 ≤ turn → turn < 73 → slice_index_or row (word_at turn) 0 ≡ 0
whole_row row turn low high = absurd (omega (arith, low, high))

pub equal_is : (a b : ℕ) → (a == b) ≡ true → a ≡ b
equal_is a b h = exact_unsigned_eq a b h

pub is_equal : (a b : ℕ) → a ≡ b → (a == b) ≡ true
is_equal a b h = eq-eqb a b h
