-- Hexadecimal text, whatever its fault.
use Rattle.std.specs.Prelude.{ℕ, ◌+◌, ◌*◌, List, [], ◌∷◌, Option, Some, None}
use Rattle.hex.specs.Hex.{hex_digit_value}

-- the byte of two digits
abbrev pub two : Option ℕ → Option ℕ → Option ℕ
two (Some h) (Some l) = Some (h * 16 + l)
two _ _ = None

abbrev pub pair_of : ℕ → ℕ → Option ℕ
pair_of high low = two (hex_digit_value high) (hex_digit_value low)

-- a byte before others
abbrev pub joined : Option ℕ → Option (List ℕ) → Option (List ℕ)
joined (Some byte) (Some bytes) = Some (byte ∷ bytes)
joined _ _ = None

-- the bytes of pairs of digits
abbrev pub decoded : List ℕ → Option (List ℕ)
decoded [] = Some []
decoded (digit ∷ []) = None
decoded (high ∷ low ∷ rest) = joined (pair_of high low) (decoded rest)
