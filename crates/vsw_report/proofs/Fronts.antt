-- The front of a caller's lines, line by line.
use Rattle.std.proofs.Common.{◌≡◌, ℕ, suc, ◌+◌, ◌-◌, ◌<◌, Bool, true, false, ◌||◌, List, [], ◌∷◌, ◌++◌, map, refl, sym, ap, ap₂, ◌∙◌, append_assoc, arith}
use Rattle.std.proofs.lemmas.Bool.{cond-true, cond-false}
use Rattle.std.proofs.lemmas.Grind.{flat_map-append}
use Rattle.std.proofs.lemmas.List.Folds.{list_any-append}
use Rattle.vsw_report.specs.Order.{emptied, is_read}
use Rattle.vsw_report.specs.Steps.{first_reads, lines_of_all, merged, past, past_reads}
use Rattle.vsw_report.specs.Line.{TextLine, are_short, texts}

pub first_here : (n : ℕ) (l : TextLine) (ls : List TextLine) → is_read n l ≡ true → first_reads n (l ∷ ls) ≡ l ∷ first_reads n ls
first_here n l ls e = cond-true (is_read n l) _ _ e

pub first_none : (n : ℕ) (l : TextLine) (ls : List TextLine) → is_read n l ≡ false → first_reads n (l ∷ ls) ≡ []
first_none n l ls e = cond-false (is_read n l) _ _ e

pub past_here : (n : ℕ) (l : TextLine) (ls : List TextLine) → is_read n l ≡ true → past_reads n (l ∷ ls) ≡ past_reads n ls
past_here n l ls e = cond-true (is_read n l) _ _ e

pub past_none : (n : ℕ) (l : TextLine) (ls : List TextLine) → is_read n l ≡ false → past_reads n (l ∷ ls) ≡ l ∷ ls
past_none n l ls e = cond-false (is_read n l) _ _ e

-- the texts of the lines of one count go over
pub one_count : (n high : ℕ) (out out1 : List ℕ) (ws ws1 cs cs1 : List (List TextLine)) → n < high
    → out1 ≡ out ++ texts (lines_of_all n ws cs) → ws1 ≡ past n ws → cs1 ≡ past n cs
    → out1 ++ texts (merged ws1 cs1 (n + 1) (high - (n + 1))) ≡ out ++ texts (merged ws cs n (high - n))
one_count n high out out1 ws ws1 cs cs1 lt q w c =
    let one : high - n ≡ suc (high - (n + 1)) = omega (arith, lt) in
    let rest : List TextLine = merged (past n ws) (past n cs) (n + 1) (high - (n + 1)) in
    ap₂ (λ (o m : List ℕ). o ++ m) q (ap₂ (λ (x y : List (List TextLine)). texts (merged x y (n + 1) (high - (n + 1)))) w c)
    ∙ (append_assoc out (texts (lines_of_all n ws cs)) (texts rest)
    ∙ (ap (λ (t : List ℕ). out ++ t) (sym (flat_map-append (λ (l : TextLine). l.text) (lines_of_all n ws cs) rest))
    ∙ ap (λ (m : ℕ). out ++ texts (merged ws cs n m)) (sym one)))

or_assoc : (a b c : Bool) → ((a || b) || c) ≡ (a || (b || c))
or_assoc true b c = refl
or_assoc false b c = refl

-- and what they tell of want of memory
pub one_short : (n high : ℕ) (short told short1 : Bool) (ws ws1 cs cs1 : List (List TextLine)) → n < high
    → short1 ≡ (short || told) → told ≡ are_short (lines_of_all n ws cs) → ws1 ≡ past n ws → cs1 ≡ past n cs
    → (short1 || are_short (merged ws1 cs1 (n + 1) (high - (n + 1)))) ≡ (short || are_short (merged ws cs n (high - n)))
one_short n high short told short1 ws ws1 cs cs1 lt s t w c =
    let one : high - n ≡ suc (high - (n + 1)) = omega (arith, lt) in
    let rest : List TextLine = merged (past n ws) (past n cs) (n + 1) (high - (n + 1)) in
    ap₂ (λ (a b : Bool). a || b) (s ∙ ap (λ (b : Bool). short || b) t) (ap₂ (λ (x y : List (List TextLine)). are_short (merged x y (n + 1) (high - (n + 1)))) w c)
    ∙ (or_assoc short (are_short (lines_of_all n ws cs)) (are_short rest)
    ∙ (ap (λ (b : Bool). short || b) (sym (list_any-append (λ (l : TextLine). l.short) (lines_of_all n ws cs) rest))
    ∙ ap (λ (m : ℕ). short || are_short (merged ws cs n m)) (sym one)))

-- as many callers are left
pub emptied_map : (f : List TextLine → List TextLine) (callers : List (List TextLine)) → emptied (map f callers) ≡ emptied callers
emptied_map f [] = refl
emptied_map f (ls ∷ callers) = ap (λ (r : List (List TextLine)). [] ∷ r) (emptied_map f callers)
