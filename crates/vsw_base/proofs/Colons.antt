-- Two colons that stand together, looked for from the front.
use Rattle.std.proofs.Common.{◌≡◌, ◌<◌, ◌≤◌, ◌+◌, ◌-◌, ℕ, List, [], ◌∷◌, true, false, length, drop, take, take_all, length-drop, sym, ap, ◌∙◌, arith, option_map, Option, Some, None}
use Rattle.std.proofs.lemmas.List.{drop-drop, drop_all}
use Rattle.std.proofs.lemmas.Grind.{common_steps}
use Rattle.vsw_base.specs.Spelling6.{begins, colons_at}

hit : (xs : List ℕ) (at : ℕ) (whole : Option ℕ) → begins xs ≡ true → option_map (λ (k : ℕ). at + k) (colons_at xs) ≡ whole → Some at ≡ whole
unfolding colons_at
hit [] at whole b e = absurd (grind arith)
hit (x ∷ xs) at whole b e = let z : at ≡ at + 0 = omega arith in ap (λ (k : ℕ). Some k) z ∙ rw b at e

miss : (xs : List ℕ) (at : ℕ) (whole : Option ℕ) → 0 < length xs → begins xs ≡ false → option_map (λ (k : ℕ). at + k) (colons_at xs) ≡ whole → option_map (λ (k : ℕ). at + 1 + k) (colons_at (drop 1 xs)) ≡ whole
unfolding colons_at
miss [] at whole l b e = absurd (omega (arith, l))
miss (x ∷ xs) at whole l b e = grind (arith, common_steps, e, b)

rest_is : (text : List ℕ) (at : ℕ) → take (length text - at) (drop at text) ≡ drop at text
rest_is text at = take_all (length text - at) (drop at text) (omega (arith, length-drop at text))

pub found : (text : List ℕ) (at : ℕ) → begins (take (length text - at) (drop at text)) ≡ true → option_map (λ (k : ℕ). at + k) (colons_at (drop at text)) ≡ colons_at text → Some at ≡ colons_at text
found text at b e = hit (drop at text) at (colons_at text) (sym (ap begins (rest_is text at)) ∙ b) e

pub passed : (text : List ℕ) (at : ℕ) → at < length text → begins (take (length text - at) (drop at text)) ≡ false → option_map (λ (k : ℕ). at + k) (colons_at (drop at text)) ≡ colons_at text → option_map (λ (k : ℕ). at + 1 + k) (colons_at (drop (at + 1) text)) ≡ colons_at text
passed text at l b e = ap (λ (xs : List ℕ). option_map (λ (k : ℕ). at + 1 + k) (colons_at xs)) (sym (drop-drop 1 at text)) ∙ miss (drop at text) at (colons_at text) (omega (arith, length-drop at text, l)) (sym (ap begins (rest_is text at)) ∙ b) e

pub ended : (text : List ℕ) (at : ℕ) → length text ≤ at → option_map (λ (k : ℕ). at + k) (colons_at (drop at text)) ≡ colons_at text → None ≡ colons_at text
unfolding colons_at
ended text at l e = let none : drop at text ≡ [] = drop_all at text l in rw none at e
