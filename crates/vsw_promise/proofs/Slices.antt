-- A list by its first element and the rest.
use Rattle.std.proofs.Common.{◌≡◌, ◌≤◌, ◌<◌, ◌-◌, ℕ, suc, List, [], ◌∷◌, length, take, drop, refl, ap, sym, ◌∙◌, arith, get_or}
use Rattle.std.proofs.lemmas.List.{take_all}

pub no-first : {A : Type 0} (xs : List A) → length xs < 1 → xs ≡ []
no-first [] h = refl
no-first (x ∷ xs) h = absurd (omega (arith, h))

less-one : (n : ℕ) → suc n - 1 ≡ n
less-one n = omega arith

rest-is : {A : Type 0} (y : A) (ys : List A) → take (length (y ∷ ys) - 1) (drop 1 (y ∷ ys)) ≡ ys
rest-is y ys = ap (λ n. take n ys) (less-one (length ys)) ∙ take_all (length ys) ys (omega arith)

pub first-rest : {A : Type 0} (xs : List A) (x : A) → 1 ≤ length xs → x ≡ get_or xs 0 x → xs ≡ x ∷ take (length xs - 1) (drop 1 xs)
first-rest [] x h e = absurd (omega (arith, h))
first-rest (y ∷ ys) x h e = ap (λ z. z ∷ ys) (sym e) ∙ ap (λ zs. x ∷ zs) (sym (rest-is y ys))

pub fewer : {A : Type 0} (xs : List A) → 1 ≤ length xs → length (take (length xs - 1) (drop 1 xs)) < length xs
fewer [] h = absurd (omega (arith, h))
fewer (y ∷ ys) h = let e = ap length (rest-is y ys) in omega (arith, e)
