-- Digits as they are written without need: what the reader of numbers looks at first, since `parse` takes a plus sign and leading zeros.
use Rattle.std.specs.Prelude.{ℕ, ◌==◌, ◌&&◌, List, [], ◌∷◌, Bool, false, not}

-- no sign leads, and no zero in front of other digits
abbrev pub is_plain : List ℕ → Bool
is_plain [] = false
is_plain (c ∷ []) = not (c == 43)
is_plain (c ∷ d ∷ rest) = not (c == 43) && not (c == 48)
