-- Jobs that are done in pieces.
use Rattle.std.proofs.Common.{◌≡◌, ℕ, zero, suc, ◌+◌, List, [], ◌∷◌, ◌++◌, take, drop, refl, ap, sym, ◌∙◌, arith}

taken_so : {A : Type 0} (n m : ℕ) (xs : List A) → n ≡ m → take n xs ≡ take m xs
taken_so n m xs e = ap (λ (k : ℕ). take k xs) e

dropped_so : {A : Type 0} (n m : ℕ) (xs : List A) → n ≡ m → drop n xs ≡ drop m xs
dropped_so n m xs e = ap (λ (k : ℕ). drop k xs) e

none_taken : {A : Type 0} (n : ℕ) → take {A = A} n [] ≡ []
none_taken zero = refl
none_taken (suc n) = refl

none_dropped : {A : Type 0} (n : ℕ) → drop {A = A} n [] ≡ []
none_dropped zero = refl
none_dropped (suc n) = refl

pub taken_more : {A : Type 0} (n more : ℕ) (xs : List A) → take n xs ++ take more (drop n xs) ≡ take (n + more) xs
taken_more zero more [] = taken_so more (0 + more) [] (omega arith)
taken_more zero more (x ∷ xs) = taken_so more (0 + more) (x ∷ xs) (omega arith)
taken_more (suc n) more [] = none_taken more ∙ sym (none_taken (suc n + more))
taken_more (suc n) more (x ∷ xs) = ap (λ w. x ∷ w) (taken_more n more xs) ∙ taken_so (suc (n + more)) (suc n + more) (x ∷ xs) (omega arith)

pub dropped_more : {A : Type 0} (n more : ℕ) (xs : List A) → drop more (drop n xs) ≡ drop (n + more) xs
dropped_more zero more [] = dropped_so more (0 + more) [] (omega arith)
dropped_more zero more (x ∷ xs) = dropped_so more (0 + more) (x ∷ xs) (omega arith)
dropped_more (suc n) more [] = none_dropped more ∙ sym (none_dropped (suc n + more))
dropped_more (suc n) more (x ∷ xs) = dropped_more n more xs ∙ dropped_so (suc (n + more)) (suc n + more) (x ∷ xs) (omega arith)
