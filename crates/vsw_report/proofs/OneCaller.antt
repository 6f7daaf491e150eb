-- The lines of one caller stand in its own order.
use Rattle.std.proofs.Common.{◌≡◌, ℕ, zero, suc, ◌+◌, Bool, true, false, List, [], ◌∷◌, ◌++◌, take, drop, refl, sym, ap, ap₂, ◌∙◌, subst, append_assoc, append-nil, arith}
use Rattle.std.proofs.lemmas.Bool.{cond-true, cond-false}
use Rattle.vsw_report.specs.MergingLaw.{OneCallerInOrder}
use Rattle.vsw_report.specs.Order.{InCounts, is_entry, is_read}
use Rattle.vsw_report.specs.Steps.{first_entry, first_reads, merged, past_entry, past_reads}
use Rattle.vsw_report.proofs.Behind.{rest_of}
use Rattle.vsw_report.proofs.Fronts.{first_here, first_none, past_here, past_none}
use Rattle.vsw_report.proofs.Counts.{within, last_reads}
use Rattle.vsw_report.proofs.InOrder.{merged_order}
use Rattle.vsw_report.specs.Line.{TextLine}

-- nothing is lost at a count
whole_reads : (n : ℕ) (ls : List TextLine) → first_reads n ls ++ past_reads n ls ≡ ls
whole_reads n [] = refl
whole_reads n (l ∷ ls) = by (is_read n l) refl (whole_reads n ls) where
  by : (b : Bool) → is_read n l ≡ b → first_reads n ls ++ past_reads n ls ≡ ls → first_reads n (l ∷ ls) ++ past_reads n (l ∷ ls) ≡ l ∷ ls
  by true e go = ap₂ (λ x y. x ++ y) (first_here n l ls e) (past_here n l ls e) ∙ ap (λ r. l ∷ r) go
  by false e go = ap₂ (λ x y. x ++ y) (first_none n l ls e) (past_none n l ls e)

whole_entry : (n : ℕ) (ls : List TextLine) → first_entry n ls ++ past_entry n ls ≡ ls
whole_entry n [] = refl
whole_entry n (l ∷ ls) = by (is_entry n l) refl where
  by : (b : Bool) → is_entry n l ≡ b → first_entry n (l ∷ ls) ++ past_entry n (l ∷ ls) ≡ l ∷ ls
  by true e = ap₂ (λ x y. x ++ y) (cond-true (is_entry n l) (take 1 (l ∷ ls)) [] e) (cond-true (is_entry n l) (drop 1 (l ∷ ls)) (l ∷ ls) e)
  by false e = ap₂ (λ x y. x ++ y) (cond-false (is_entry n l) (take 1 (l ∷ ls)) [] e) (cond-false (is_entry n l) (drop 1 (l ∷ ls)) (l ∷ ls) e)

merged_one : (more n : ℕ) (ls : List TextLine) → InCounts n ls (n + more) → merged (ls ∷ []) [] n more ≡ ls
merged_one zero n ls h =
    let same : n + 0 ≡ n = omega arith in
    ends (first_reads n ls) ∙ last_reads n ls (subst (λ k. InCounts n ls k) same h) where
      ends : (a : List TextLine) → (a ++ []) ++ [] ≡ a
      ends a = simp append-nil
merged_one (suc more) n ls h =
    let same : n + suc more ≡ n + 1 + more = omega arith in
    let next = merged_one more (n + 1) (rest_of n ls) (subst (λ k. InCounts (n + 1) (rest_of n ls) k) same (within n (n + suc more) ls h (omega arith))) in
    ap (λ m. (first_reads n ls ++ []) ++ [] ++ (first_entry n (past_reads n ls) ++ []) ++ [] ++ m) next
    ∙ (grouped (first_reads n ls) (first_entry n (past_reads n ls)) (rest_of n ls)
    ∙ (ap (λ r. first_reads n ls ++ r) (whole_entry n (past_reads n ls)) ∙ whole_reads n ls)) where
      grouped : (a b m : List TextLine) → (a ++ []) ++ [] ++ (b ++ []) ++ [] ++ m ≡ a ++ (b ++ m)
      grouped a b m = simp (append-nil, append_assoc)

pub one_in_order : OneCallerInOrder
one_in_order low more ls h = sym (merged_order more low (low + more) (ls ∷ []) [] (h, tt) tt) ∙ merged_one more low ls h
