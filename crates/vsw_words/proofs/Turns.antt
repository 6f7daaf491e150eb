-- The twelve words of a key that a look loads late.
use Rattle.std.proofs.Common.{ℕ, zero, suc, ◌+◌, ◌-◌, ◌<◌, ◌≤◌, ◌≡◌, List, [], ◌∷◌, subst, arith, length, get_or}
use Rattle.vsw_stamps.specs.Order.{word_at}
use Rattle.vsw_stamps.proofs.Turns.{other_at}

abbrev pub others : List ℕ
others = 1 ∷ 4 ∷ 5 ∷ 6 ∷ 7 ∷ 9 ∷ 10 ∷ 11 ∷ 12 ∷ 13 ∷ 14 ∷ 15 ∷ []

-- it holds of each
abbrev pub Each : (ℕ → Type 0) → List ℕ → Type 0
Each P [] = Unit {0}
Each P (x ∷ xs) = P x × Each P xs

each_at : (P : ℕ → Type 0) (xs : List ℕ) → Each P xs → (k : ℕ) → k < length xs → P (get_or xs k 0)
each_at P [] each k lt = absurd (omega (arith, lt))
each_at P (x ∷ xs) each zero lt = each.0
each_at P (x ∷ xs) each (suc k) lt = each_at P xs each.1 k (omega (arith, lt))

pub rest_of_key : (P : ℕ → Type 0) → Each P others → (turn : ℕ) → 31 ≤ turn → turn < 43 → P (word_at turn)
rest_of_key P each turn low high =
    let e : 31 + (turn - 31) ≡ turn = omega (arith, low) in
    let lt : turn - 31 < 12 = omega (arith, low, high) in
    subst (λ n. P (word_at n)) e (subst P (other_at (turn - 31) lt) (each_at P others each (turn - 31) lt))
