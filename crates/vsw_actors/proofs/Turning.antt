-- Actors that wait behind the others.
use Rattle.std.proofs.Common.{◌≡◌, ◌+◌, ◌-◌, ◌≤◌, ℕ, zero, suc, List, [], ◌∷◌, ◌++◌, length, take, drop, ap, ap₂, sym, refl, ◌∙◌, subst, arith}
use Rattle.std.proofs.Math.Seq.{take-append_seam, drop-append_seam}
use Rattle.std.proofs.lemmas.List.{take-append-drop}
use Rattle.vsw_workers.specs.Rounds.{AllFinish}
use Rattle.vsw_actors.specs.Private.Seats.{turned}

-- ---- turning back

-- two parts of a list change places, and change places again
swapped : {A : Type 0} (k m : ℕ) (xs : List A) → m ≡ length (drop k xs) → drop m (drop k xs ++ take k xs) ++ take m (drop k xs ++ take k xs) ≡ xs
swapped k m xs e =
    ap₂ (λ us vs. us ++ vs) (ap (λ n. drop n (drop k xs ++ take k xs)) e ∙ drop-append_seam (drop k xs) (take k xs)) (ap (λ n. take n (drop k xs ++ take k xs)) e ∙ take-append_seam (drop k xs) (take k xs)) ∙ take-append-drop k xs

left_behind : {A : Type 0} (k : ℕ) (xs : List A) (m : ℕ) → k + m ≡ length xs → m ≡ length (drop k xs)
left_behind zero [] m e = omega (arith, e)
left_behind zero (x ∷ xs) m e = omega (arith, e)
left_behind (suc k) [] m e = absurd (omega (arith, e))
left_behind (suc k) (x ∷ xs) m e = left_behind k xs m (omega (arith, e))

pub turned_back : {A : Type 0} (n k m : ℕ) (xs : List A) → n + k + m ≡ length xs → turned n m (turned n k xs) ≡ xs
turned_back zero k m [] e = swapped k m [] (left_behind k [] m (omega (arith, e)))
turned_back zero k m (x ∷ xs) e = swapped k m (x ∷ xs) (left_behind k (x ∷ xs) m (omega (arith, e)))
turned_back (suc n) k m [] e = absurd (omega (arith, e))
turned_back (suc n) k m (x ∷ xs) e = ap (λ w. x ∷ w) (turned_back n k m xs (omega (arith, e)))

-- ---- parts have finished

module _ {A W J : Type 0} (what : A → W) (done todo : A → List J) where
  pub finish_take : (n : ℕ) (xs ys : List A) → AllFinish what done todo xs ys → AllFinish what done todo (take n xs) (take n ys)
  finish_take zero [] [] f = tt
  finish_take zero [] (y ∷ ys) f = absurd f
  finish_take zero (x ∷ xs) [] f = absurd f
  finish_take zero (x ∷ xs) (y ∷ ys) f = tt
  finish_take (suc n) [] [] f = tt
  finish_take (suc n) [] (y ∷ ys) f = absurd f
  finish_take (suc n) (x ∷ xs) [] f = absurd f
  finish_take (suc n) (x ∷ xs) (y ∷ ys) f = (f.0, finish_take n xs ys f.1)

  pub finish_drop : (n : ℕ) (xs ys : List A) → AllFinish what done todo xs ys → AllFinish what done todo (drop n xs) (drop n ys)
  finish_drop zero [] [] f = tt
  finish_drop zero [] (y ∷ ys) f = absurd f
  finish_drop zero (x ∷ xs) [] f = absurd f
  finish_drop zero (x ∷ xs) (y ∷ ys) f = f
  finish_drop (suc n) [] [] f = tt
  finish_drop (suc n) [] (y ∷ ys) f = absurd f
  finish_drop (suc n) (x ∷ xs) [] f = absurd f
  finish_drop (suc n) (x ∷ xs) (y ∷ ys) f = finish_drop n xs ys f.1

  pub finish_both : (xs ys us vs : List A) → AllFinish what done todo xs ys → AllFinish what done todo us vs → AllFinish what done todo (xs ++ us) (ys ++ vs)
  finish_both [] [] us vs f g = g
  finish_both [] (y ∷ ys) us vs f g = absurd f
  finish_both (x ∷ xs) [] us vs f g = absurd f
  finish_both (x ∷ xs) (y ∷ ys) us vs f g = (f.0, finish_both xs ys us vs f.1 g)

  -- no actor is added or lost
  pub finish_length : (xs ys : List A) → AllFinish what done todo xs ys → length ys ≡ length xs
  finish_length [] [] f = refl
  finish_length [] (y ∷ ys) f = absurd f
  finish_length (x ∷ xs) [] f = absurd f
  finish_length (x ∷ xs) (y ∷ ys) f = ap suc (finish_length xs ys f.1)

  -- who has finished at another place has finished
  pub finish_turned : (n k m : ℕ) (xs ys zs : List A) → n + k + m ≡ length xs → zs ≡ turned n m ys → AllFinish what done todo (turned n k xs) ys → AllFinish what done todo xs zs
  finish_turned n k m xs ys zs e z f =
      let all : List A = turned n k xs in
      let g : AllFinish what done todo (turned n m all) (turned n m ys) =
      finish_both (take n all) (take n ys) (drop m (drop n all) ++ take m (drop n all)) (drop m (drop n ys) ++ take m (drop n ys)) (finish_take n all ys f)
      (finish_both (drop m (drop n all)) (drop m (drop n ys)) (take m (drop n all)) (take m (drop n ys)) (finish_drop m (drop n all) (drop n ys) (finish_drop n all ys f)) (finish_take m (drop n all) (drop n ys) (finish_drop n all ys f))) in
      subst (λ w. AllFinish what done todo xs w) (sym z) (subst (λ w. AllFinish what done todo w (turned n m ys)) (turned_back n k m xs e) g)
