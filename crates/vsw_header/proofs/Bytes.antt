-- Bytes stay bytes.
use Rattle.std.proofs.Common.{ℕ, zero, suc, ◌+◌, List, [], ◌∷◌, take, drop, arith}
use Rattle.std.proofs.lemmas.List.{get_or-drop}
use Rattle.vsw_header.specs.Sum.{AreBytes}

pub bytes_dropped : (n : ℕ) (xs : List ℕ) → AreBytes xs → AreBytes (drop n xs)
bytes_dropped n xs h i = rw (get_or-drop n xs i 0) (h (n + i))

pub bytes_taken : (n : ℕ) (xs : List ℕ) → AreBytes xs → AreBytes (take n xs)
bytes_taken zero xs h i = omega arith
bytes_taken (suc n) [] h i = omega arith
bytes_taken (suc n) (x ∷ xs) h zero = h 0
bytes_taken (suc n) (x ∷ xs) h (suc i) = bytes_taken n xs (λ j. h (suc j)) i
