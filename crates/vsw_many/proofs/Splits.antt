-- Callers whose lines stand in two parts.
use Rattle.std.proofs.Common.{◌≡◌, ◌≤◌, ℕ, zero, suc, ◌+◌, Bool, List, [], ◌∷◌, ◌++◌, map, filter, refl, ap, ap₂, sym, ◌∙◌, arith, append_assoc}
use Rattle.std.specs.List.{flat_map}
use Rattle.vsw_report.specs.Line.{TextLine}
use Rattle.vsw_report.specs.Order.{InCounts, is_entry, is_read, rise_of}
use Rattle.vsw_many.proofs.Actors.{filter_append}
use Rattle.vsw_many.specs.CrewLaw.{SplitIsCounted, SplitIsMerged}

-- both parts of each
abbrev pub parts : List (List TextLine × List TextLine) → List (List TextLine)
parts pairs = flat_map (λ p. p.0 ∷ p.1 ∷ []) pairs

-- each as one list
abbrev pub wholes : List (List TextLine × List TextLine) → List (List TextLine)
wholes pairs = map (λ p. p.0 ++ p.1) pairs

-- ---- merged

split_filter : (f : TextLine → Bool) (callers : List (List TextLine)) (pairs : List (List TextLine × List TextLine)) → flat_map (filter f) (callers ++ parts pairs) ≡ flat_map (filter f) (callers ++ wholes pairs)
split_filter f [] [] = refl
split_filter f [] (p ∷ pairs) =
    ap (λ w. filter f p.0 ++ (filter f p.1 ++ w)) (split_filter f [] pairs)
    ∙ (sym (append_assoc (filter f p.0) (filter f p.1) (flat_map (filter f) (wholes pairs)))
    ∙ ap (λ w. w ++ flat_map (filter f) (wholes pairs)) (sym (filter_append f p.0 p.1)))
split_filter f (c ∷ callers) pairs = ap (λ w. filter f c ++ w) (split_filter f callers pairs)

pub split_is_merged : SplitIsMerged
split_is_merged callers pairs n zero = split_filter (is_read n) callers pairs
split_is_merged callers pairs n (suc more) =
    ap₂ (λ x y. x ++ y) (split_filter (is_read n) callers pairs) (ap₂ (λ x y. x ++ y) (split_filter (is_entry n) callers pairs) (split_is_merged callers pairs (n + 1) more))

-- ---- counts

counts_within : (low high : ℕ) (ls : List TextLine) → InCounts low ls high → low ≤ high
counts_within low high [] p = p
counts_within low high (l ∷ ls) p = omega (arith, p.0, counts_within (l.count + rise_of l.entry) high ls p.1)

counts_lower : (low mid high : ℕ) (ls : List TextLine) → low ≤ mid → InCounts mid ls high → InCounts low ls high
counts_lower low mid high [] le p = omega (arith, le, p)
counts_lower low mid high (l ∷ ls) le p = (omega (arith, le, p.0), p.1)

counts_split : (low high : ℕ) (xs ys : List TextLine) → InCounts low (xs ++ ys) high → InCounts low xs high × InCounts low ys high
counts_split low high [] ys p = (counts_within low high ys p, p)
counts_split low high (x ∷ xs) ys p =
    let rest = counts_split (x.count + rise_of x.entry) high xs ys p.1 in
    ((p.0, rest.0), counts_lower low (x.count + rise_of x.entry) high ys (omega (arith, p.0)) rest.1)

pub split_is_counted : SplitIsCounted
split_is_counted [] [] low high p = tt
split_is_counted [] (x ∷ pairs) low high p = let both = counts_split low high x.0 x.1 p.0 in (both.0, (both.1, split_is_counted [] pairs low high p.1))
split_is_counted (c ∷ callers) pairs low high p = (p.0, split_is_counted callers pairs low high p.1)
