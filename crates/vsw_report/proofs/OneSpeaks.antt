-- One worker, where no controller has lines.
use Rattle.std.proofs.Common.{◌≡◌, ℕ, zero, suc, ◌+◌, ◌-◌, ◌<◌, ◌≤◌, false, get_or, length, Result, Ok, Err, OnOk, List, [], ◌∷◌, ◌++◌, refl, sym, ap, ap₂, ◌∙◌, subst, arith}
use Rattle.std.specs.List.{flat_map}
use Rattle.vsw_base.specs.declared.fault.NoMemory.{NoMemory}
use Rattle.vsw_report.specs.Line.{TextLine}
use Rattle.vsw_report.specs.Order.{AllInCounts, InCounts, emptied, entry_at, have_lines, in_order, reads_at}
use Rattle.vsw_report.proofs.OneCaller.{one_in_order}

pub silent_emptied : (cs : List (List TextLine)) → have_lines cs ≡ false → cs ≡ emptied cs
silent_emptied [] e = refl
silent_emptied ([] ∷ cs) e = ap (λ (r : List (List TextLine)). [] ∷ r) (silent_emptied cs e)
silent_emptied ((l ∷ ls) ∷ cs) e = absurd (cc e)

-- callers without lines add nothing
silent_none : (f : List TextLine → List TextLine) → f [] ≡ [] → (cs : List (List TextLine)) → have_lines cs ≡ false → flat_map f cs ≡ []
silent_none f none [] e = refl
silent_none f none ([] ∷ cs) e = ap₂ (λ (a b : List TextLine). a ++ b) none (silent_none f none cs e)
silent_none f none ((l ∷ ls) ∷ cs) e = absurd (cc e)

order_alone : (more n : ℕ) (ls : List TextLine) (cs : List (List TextLine)) → have_lines cs ≡ false → in_order (ls ∷ cs) n more ≡ in_order (ls ∷ []) n more
order_alone zero n ls cs e = ap (λ (r : List TextLine). reads_at n ls ++ r) (silent_none (reads_at n) refl cs e)
order_alone (suc more) n ls cs e =
    ap₂ (λ (a b : List TextLine). a ++ b) (ap (λ (r : List TextLine). reads_at n ls ++ r) (silent_none (reads_at n) refl cs e))
    (ap₂ (λ (a b : List TextLine). a ++ b) (ap (λ (r : List TextLine). entry_at n ls ++ r) (silent_none (entry_at n) refl cs e)) (order_alone more (n + 1) ls cs e))

-- its lines are in the order of the report
pub one_speaks : (low high : ℕ) (ls : List TextLine) (cs : List (List TextLine)) → low ≤ high → have_lines cs ≡ false → AllInCounts low (ls ∷ cs) high → in_order (ls ∷ cs) low (high - low) ≡ ls
one_speaks low high ls cs le e h =
    let whole : high ≡ low + (high - low) = omega (arith, le) in
    order_alone (high - low) low ls cs e ∙ one_in_order low (high - low) ls (subst (λ k. InCounts low ls k) whole h.0)

singleton : (ws : List (List TextLine)) (w : List TextLine) → 1 ≤ length ws → length ws < 2 → w ≡ get_or ws 0 w → ws ≡ w ∷ []
singleton [] w le lt e = absurd (omega (arith, le))
singleton (x ∷ []) w le lt e = ap (λ (y : List TextLine). y ∷ []) (sym e)
singleton (x ∷ y ∷ ws) w le lt e = absurd (omega (arith, lt))

-- the same of all workers, where there is one
pub one_worker : (low high : ℕ) (ws cs : List (List TextLine)) (w : List TextLine) → low ≤ high → 1 ≤ length ws → length ws < 2 → w ≡ get_or ws 0 w → have_lines cs ≡ false → AllInCounts low (ws ++ cs) high
    → get_or ws 0 w ≡ in_order (ws ++ cs) low (high - low)
one_worker low high ws cs w le some few is none h =
    let alone : ws ≡ w ∷ [] = singleton ws w some few is in
    sym is ∙ sym (ap (λ (x : List (List TextLine)). in_order (x ++ cs) low (high - low)) alone ∙ one_speaks low high w cs le none (subst (λ (x : List (List TextLine)). AllInCounts low (x ++ cs) high) alone h))

pub on_ok : {A : Type 0} (r : Result A NoMemory) (P : Type 0) → P → OnOk r P
on_ok (Ok a) P p = p
on_ok (Err e) P p = tt
