-- Tallies after one more entry.
use Rattle.std.proofs.Common.{◌≡◌, ◌≢◌, ℕ, zero, suc, ◌+◌, ◌%◌, ◌<◌, ◌≤◌, if◌then◌else◌, Bool, true, false, List, [], ◌∷◌, ◌++◌, length, refl, ap, sym, ◌∙◌, arith, set, get_or, get_or-set_same, get_or-set_other, slice_index, replicate}
use mathlib.Core.Logic.{dite}
use native.Mathlib.Decide.{ℕ_discrete}
use Rattle.vsw_stamps.proofs.Keeps.{inside}
use Rattle.vsw_table_tests.specs.Flows.{touches, tallied, tally, IsGoodFlow, IsTold, AreTallies}

swapped : (a b : Bool) (n : ℕ) → (if a then ((if b then (n + 1) % 18446744073709551616 else n) + 1) % 18446744073709551616 else (if b then (n + 1) % 18446744073709551616 else n))
    ≡ (if b then ((if a then (n + 1) % 18446744073709551616 else n) + 1) % 18446744073709551616 else (if a then (n + 1) % 18446744073709551616 else n))
swapped true true n = refl
swapped true false n = refl
swapped false true n = refl
swapped false false n = refl

pub tally_more : (flow : ℕ) (h : List ℕ) (e : ℕ) → tally flow (h ++ e ∷ []) ≡ tallied flow e (tally flow h)
tally_more flow [] e = refl
tally_more flow (x ∷ xs) e = ap (λ (n : ℕ). tallied flow x n) (tally_more flow xs e) ∙ swapped (touches flow x) (touches flow e) (tally flow xs)

-- tallies of which those below k are after the entry
abbrev pub SoFar : ℕ → ℕ → List ℕ → List ℕ → Type 0
SoFar k e old new = (flow : ℕ) → flow < 16 → (flow < k → get_or new flow 0 ≡ tallied flow e (get_or old flow 0)) × (k ≤ flow → get_or new flow 0 ≡ get_or old flow 0)

pub so_far_next : (k e n : ℕ) (old new : List ℕ) → k < 16 → length new ≡ 16 → n ≡ tallied k e (get_or new k 0) → SoFar k e old new → SoFar (k + 1) e old (set new k n)
so_far_next k e n old new lt long is far flow small = dite (ℕ_discrete flow k)
    (λ same.
    let here : get_or (set new k n) flow 0 ≡ n = ap (λ (f : ℕ). get_or (set new k n) f 0) same ∙ get_or-set_same new k n 0 (omega (arith, lt, long)) in
    let was : get_or new k 0 ≡ get_or old k 0 = (far k lt).1 (omega arith) in
    let now : n ≡ tallied k e (get_or old k 0) = is ∙ ap (λ (m : ℕ). tallied k e m) was in
    ((λ _. here ∙ (now ∙ ap (λ (f : ℕ). tallied f e (get_or old f 0)) (sym same))), (λ le. absurd (omega (arith, le, same)))))
    (λ ne.
    let there : get_or (set new k n) flow 0 ≡ get_or new flow 0 = get_or-set_other new k flow n 0 ne in
    ((λ less. there ∙ (far flow small).0 (omega (arith, less, ne))), (λ le. there ∙ (far flow small).1 (omega (arith, le)))))

pub so_far_first : (e : ℕ) (old : List ℕ) → SoFar 0 e old old
so_far_first e old flow small = ((λ less. absurd (omega (arith, less))), (λ le. refl))

pub tallies_next : (h old new : List ℕ) (e k : ℕ) → 16 ≤ k → AreTallies h old → SoFar k e old new → AreTallies (h ++ e ∷ []) new
tallies_next h old new e k le are far flow small = (far flow small).0 (omega (arith, le, small)) ∙ (ap (λ (n : ℕ). tallied flow e n) (are flow small) ∙ sym (tally_more flow h e))

-- what is told by the tallies is good
pub told_good : (h tallies row : List ℕ) → AreTallies h tallies → IsTold tallies row → IsGoodFlow h row
told_good h tallies row are told = (told.0, told.1 ∙ are (slice_index row 0) told.0, told.2 ∙ are (slice_index row 0) told.0)

pub none_told : AreTallies [] (replicate 16 0)
none_told flow small = zeros 16 flow
  where
    zeros : (n i : ℕ) → let z : ℕ = 0 in get_or (replicate n z) i z ≡ z
    zeros zero i = refl
    zeros (suc n) zero = refl
    zeros (suc n) (suc i) = zeros n i

-- a stamp that was taken away is 0
pub shaken_none : (stamps : List ℕ) (r : ℕ) → get_or (set stamps r 0) r 0 ≡ 0
shaken_none [] zero = refl
shaken_none [] (suc r) = refl
shaken_none (x ∷ xs) zero = refl
shaken_none (x ∷ xs) (suc r) = shaken_none xs r

-- what holds of the rows that there are holds of all that have a stamp
pub kept_all : (stamps : List ℕ) (n : ℕ) (P : ℕ → Type 0) → length stamps ≤ n → ((r : ℕ) → r < n → get_or stamps r 0 ≢ 0 → P r) → (r : ℕ) → get_or stamps r 0 ≢ 0 → P r
kept_all stamps n P le holds r ne = let lt = inside stamps r ne in holds r (omega (arith, lt, le)) ne
