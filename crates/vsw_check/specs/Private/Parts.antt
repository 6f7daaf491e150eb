-- Bytes cut at a separator.
use Rattle.std.specs.Prelude.{ℕ, ◌==◌, ◌≡◌, ◌<◌, List, [], ◌∷◌, length, Option, Some, None}
use Rattle.std.specs.List.{slice_split}

-- the first part and the bytes behind it, none where there is one part
abbrev pub IsCut : ℕ → List ℕ → Option (List ℕ × List ℕ) → Type 0
IsCut s bytes None = slice_split (λ b. b == s) bytes ≡ bytes ∷ []
IsCut s bytes (Some p) = (slice_split (λ b. b == s) bytes ≡ p.0 ∷ slice_split (λ b. b == s) p.1) × (length p.1 < length bytes)

-- the parts of what is left, none where nothing is left
abbrev pub parts_of : ℕ → Option (List ℕ) → List (List ℕ)
parts_of s None = []
parts_of s (Some rest) = slice_split (λ b. b == s) rest

-- the first of the parts, and those behind it
abbrev pub IsNext : List (List ℕ) → Option (List ℕ) → List (List ℕ) → Type 0
IsNext parts None after = parts ≡ []
IsNext parts (Some p) after = parts ≡ p ∷ after
