-- Slices that are written in part.
use Rattle.std.proofs.Common.{◌≡◌, ℕ, ◌-◌, ◌≤◌, List, [], ◌++◌, sym, ◌∙◌, ap, arith, length, take, drop, take_all, length-drop, length-take, length-append}
use Rattle.std.proofs.Math.Seq.{take-append_seam, drop-append_seam}
use Rattle.std.proofs.lemmas.List.{take-append-drop, append-nil, drop_all}
use borrow.Rule.Slice.PartMut.{put_mid}

-- a list by what is known of its front and of its rest
pub joined_at : (k : ℕ) (xs front rest : List ℕ) → take k xs ≡ front → drop k xs ≡ rest → xs ≡ front ++ rest
joined_at k xs front rest e f = sym (take-append-drop k xs) ∙ ap (λ (l : List ℕ). l ++ drop k xs) e ∙ ap (λ (l : List ℕ). front ++ l) f

-- what stands from k on is written anew
pub put_rest : (k : ℕ) (xs ys front rest : List ℕ) → k ≤ length xs → take k xs ≡ front → ys ≡ rest → put_mid k (length xs - k) xs ys ≡ front ++ rest
put_rest k xs ys front rest h e f =
    let none : drop (length xs - k) (drop k xs) ≡ [] = drop_all (length xs - k) (drop k xs) (omega (arith, length-drop k xs)) in
    ap (λ (l : List ℕ). take k xs ++ (ys ++ l)) none ∙ ap (λ (l : List ℕ). take k xs ++ l) (append-nil ys) ∙ ap (λ (l : List ℕ). l ++ ys) e ∙ ap (λ (l : List ℕ). front ++ l) f

-- the rest of a slice from k on is what drops k
pub rest_of : {A : Type 0} (k : ℕ) (xs : List A) → take (length xs - k) (drop k xs) ≡ drop k xs
rest_of k xs = take_all (length xs - k) (drop k xs) (omega (arith, length-drop k xs))

-- what stands before k is written, and then what stands behind it
pub both_written : (k : ℕ) (old first last front : List ℕ) (f : List ℕ → List ℕ) → k ≤ length old → length first ≡ length (take k old) → first ≡ front → last ≡ f (take (length (first ++ drop k old) - k) (drop k (first ++ drop k old))) → put_mid k (length (first ++ drop k old) - k) (first ++ drop k old) last ≡ front ++ f (drop k old)
both_written k old first last front f h l e g =
    let n : length first ≡ k = omega (arith, l, length-take k old) in
    let behind : drop k (first ++ drop k old) ≡ drop k old = ap (λ (m : ℕ). drop m (first ++ drop k old)) (sym n) ∙ drop-append_seam first (drop k old) in
    let before : take k (first ++ drop k old) ≡ first = ap (λ (m : ℕ). take m (first ++ drop k old)) (sym n) ∙ take-append_seam first (drop k old) in
    put_rest k (first ++ drop k old) last front (f (drop k old)) (omega (arith, n, length-append first (drop k old))) (before ∙ e) (g ∙ ap f (rest_of k (first ++ drop k old) ∙ behind))
