-- Lines within their counts, and what is left of them.
use Rattle.std.proofs.Common.{◌≡◌, ℕ, ◌+◌, ◌<◌, ◌≤◌, List, [], ◌∷◌, refl, sym, ap, ◌∙◌, subst, arith}
use Rattle.std.proofs.lemmas.Bool.{cond-true, cond-false}
use Rattle.vsw_report.specs.Order.{InCounts, is_entry, rise_of}
use Rattle.vsw_report.specs.Steps.{first_reads, past_entry}
use Rattle.vsw_report.proofs.Behind.{Stands, read_here, entry_here, later, stands, not_read, not_entry, rest_of}
use Rattle.vsw_report.proofs.Fronts.{first_here, past_here, past_none}
use Rattle.vsw_report.specs.Line.{TextLine}

bounds : (low high : ℕ) (ls : List TextLine) → InCounts low ls high → low ≤ high
bounds low high [] h = h
bounds low high (l ∷ ls) h = let up = bounds (l.count + rise_of l.entry) high ls h.1 in omega (arith, h.0, up)

-- behind a count the lines are of later ones
pub within : (n high : ℕ) (ls : List TextLine) → InCounts n ls high → n < high → InCounts (n + 1) (rest_of n ls) high
within n high [] h lt = omega (arith, lt)
within n high (l ∷ ls) h lt = by (stands n l h.0) (λ k. within n high ls k lt) where
  by : Stands n l → (InCounts n ls high → InCounts (n + 1) (rest_of n ls) high) → InCounts (n + 1) (rest_of n (l ∷ ls)) high
  by (read_here e f c m) go = subst (λ r. InCounts (n + 1) (past_entry n r) high) (sym (past_here n l ls e)) (go (subst (λ k. InCounts k ls high) m h.1))
  by (entry_here e f c m) go =
      let left : rest_of n (l ∷ ls) ≡ ls = ap (past_entry n) (past_none n l ls e) ∙ cond-true (is_entry n l) _ _ f in
      subst (λ r. InCounts (n + 1) r high) (sym left) (subst (λ k. InCounts k ls high) m h.1)
  by (later up) go =
      let left : rest_of n (l ∷ ls) ≡ l ∷ ls = ap (past_entry n) (past_none n l ls (not_read n l (λ s. omega (arith, s, up)))) ∙ cond-false (is_entry n l) _ _ (not_entry n l (λ s. omega (arith, s, up))) in
      subst (λ r. InCounts (n + 1) r high) (sym left) (omega (arith, up), h.1)

-- at the last count all are reads
pub last_reads : (n : ℕ) (ls : List TextLine) → InCounts n ls n → first_reads n ls ≡ ls
last_reads n [] h = refl
last_reads n (l ∷ ls) h = by (stands n l h.0) (λ k. last_reads n ls k) where
  by : Stands n l → (InCounts n ls n → first_reads n ls ≡ ls) → first_reads n (l ∷ ls) ≡ l ∷ ls
  by (read_here e f c m) go = first_here n l ls e ∙ ap (λ r. l ∷ r) (go (subst (λ k. InCounts k ls n) m h.1))
  by (entry_here e f c m) go = let up = bounds (l.count + rise_of l.entry) n ls h.1 in absurd (omega (arith, m, up))
  by (later up) go = let top = bounds (l.count + rise_of l.entry) n ls h.1 in absurd (omega (arith, up, top))
