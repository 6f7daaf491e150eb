-- Fitting is what is found on the way, with a count of the outer headers that are left.
use Rattle.std.proofs.Common.{◌≡◌, ℕ, ◌+◌, ◌-◌, ◌==◌, ◌&&◌, List, [], ◌∷◌, Bool, true, false, nat_le, nat_lt, refl, ap, ◌∙◌, arith}
use Rattle.vsw_base.specs.declared.header.Header.{Header}
use Rattle.vsw_base.specs.Shape.{is_stack}
use Rattle.vsw_transpose.specs.declared.act.Act.{Act}
use Rattle.vsw_transpose.specs.declared.act.Act.TheVariants.{Push, Pop, Modify, Ignore}
use Rattle.vsw_transpose.specs.Apply.{apply, is_of}
use Rattle.vsw_transpose.specs.Fits.{all_may, at_headers, fits, outer}
use Rattle.vsw_transpose.specs.Private.Suits.{suits}

-- the count falls as the place rises
suits_is : (outer place : ℕ) (xs : List Act) (hs : List Header) → all_may outer place (at_headers xs) hs ≡ suits (outer - place) xs hs
suits_is outer place [] [] = refl
suits_is outer place [] (h ∷ hs) = refl
suits_is outer place (Push g ∷ xs) hs = suits_is outer place xs hs
suits_is outer place (Pop ∷ xs) [] = refl
suits_is outer place (Modify c ∷ xs) [] = refl
suits_is outer place (Ignore ∷ xs) [] = refl
suits_is outer place (Pop ∷ xs) (h ∷ hs) =
    let a : nat_lt place outer ≡ nat_lt 0 (outer - place) = grind arith in
    let b : outer - (place + 1) ≡ outer - place - 1 = omega arith in
    ap (λ (c : Bool). c && all_may outer (place + 1) (at_headers xs) hs) a
    ∙ ap (λ (c : Bool). nat_lt 0 (outer - place) && c) (suits_is outer (place + 1) xs hs ∙ ap (λ (n : ℕ). suits n xs hs) b)
suits_is outer place (Modify c ∷ xs) (h ∷ hs) = by (nat_le outer place) refl (suits_is outer (place + 1) xs hs)
  where
    by : (b : Bool) → nat_le outer place ≡ b → all_may outer (place + 1) (at_headers xs) hs ≡ suits (outer - (place + 1)) xs hs
        → (nat_le outer place && is_of c h && all_may outer (place + 1) (at_headers xs) hs) ≡ ((outer - place == 0) && is_of c h && suits (outer - place) xs hs)
    by true e ih =
        let z : (outer - place == 0) ≡ true = grind arith in
        let n : outer - (place + 1) ≡ outer - place = grind arith in
        rw (e, z) (ap (λ (d : Bool). is_of c h && d) (ih ∙ ap (λ (m : ℕ). suits m xs hs) n))
    by false e ih = let z : (outer - place == 0) ≡ false = grind arith in rw (e, z) refl
suits_is outer place (Ignore ∷ xs) (h ∷ hs) =
    let b : outer - (place + 1) ≡ outer - place - 1 = omega arith in
    suits_is outer (place + 1) xs hs ∙ ap (λ (n : ℕ). suits n xs hs) b

pub fits_is : (xs : List Act) (hs : List Header) → fits xs hs ≡ (suits (outer hs) xs hs && is_stack (apply xs hs))
fits_is xs hs =
    let none : outer hs - 0 ≡ outer hs = omega arith in
    ap (λ (b : Bool). b && is_stack (apply xs hs)) (suits_is (outer hs) 0 xs hs ∙ ap (λ (n : ℕ). suits n xs hs) none)
