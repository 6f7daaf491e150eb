-- Digits by a table.
use Rattle.std.specs.Prelude.{ℕ, ◌/◌, List, [], ◌∷◌, slice_index, bit_and}
use Rattle.hex.specs.Hex.{lower_digits}

-- the first digit of a byte, and its second
abbrev pub high : ℕ → ℕ
high b = slice_index lower_digits (b / 16)

abbrev pub low : ℕ → ℕ
low b = slice_index lower_digits (bit_and b 15)

abbrev pub zipped : List ℕ → List ℕ → List ℕ
zipped [] ys = []
zipped (x ∷ xs) [] = []
zipped (x ∷ xs) (y ∷ ys) = x ∷ y ∷ zipped xs ys
