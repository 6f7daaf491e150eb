-- The first line of some bytes.
use Rattle.std.proofs.Common.{◌≡◌, ℕ, ◌+◌, ◌-◌, ◌<◌, ◌≤◌, suc, List, [], ◌∷◌, length, Bool, true, false, not, Some, None, refl, ap, ◌∙◌, arith, take, drop, cond, nat_lt, length-drop, if◌then◌else◌}
use Rattle.std.proofs.Math.Numerals.{add-one}
use Rattle.std.proofs.lemmas.Bool.{ltb-false}
use Rattle.std.proofs.lemmas.List.{take_all, drop_all}
use Rattle.std.specs.List.{position, position_or_len}
use Rattle.vsw_commandfile.specs.Lines.{is_feed, in_front, lines_of}

pub no_lines : (bs : List ℕ) → length bs ≡ 0 → lines_of bs ≡ []
unfolding lines_of
no_lines [] h = refl
no_lines (b ∷ bs) h = absurd (omega (arith, h))

-- a line is at least one byte, its line feed
pub few_lines : (bs : List ℕ) → length (lines_of bs) ≤ length bs
unfolding lines_of
few_lines [] = omega arith
few_lines (b ∷ bs) = elim (is_feed b) as (λ t. length (if t then [] ∷ lines_of bs else in_front b (lines_of bs)) ≤ suc (length bs)) [
  | true ↦ omega (arith, few_lines bs)
  | false ↦ by (lines_of bs) (few_lines bs)
]
  where
    by : (ls : List (List ℕ)) → length ls ≤ length bs → length (in_front b ls) ≤ suc (length bs)
    by [] h = omega arith
    by (l ∷ ls) h = omega (arith, h)

-- where the first line ends
abbrev end : List ℕ → ℕ
end bs = position_or_len is_feed bs

-- the lines of more bytes, by the test of the first of them
cut-by : (b : ℕ) (bs : List ℕ) → lines_of bs ≡ take (end bs) bs ∷ lines_of (drop (suc (end bs)) bs) → (t : Bool) → (if t then [] ∷ lines_of bs else in_front b (lines_of bs)) ≡ take (cond (not t) (1 + end bs) 0) (b ∷ bs) ∷ lines_of (drop (suc (cond (not t) (1 + end bs) 0)) (b ∷ bs))
cut-by b bs h true = refl
cut-by b bs h false = let more : 1 + end bs ≡ suc (end bs) = omega arith in rw more (ap (in_front b) h)

cut : (b : ℕ) (bs : List ℕ) → lines_of (b ∷ bs) ≡ take (end (b ∷ bs)) (b ∷ bs) ∷ lines_of (drop (suc (end (b ∷ bs))) (b ∷ bs))
unfolding lines_of
cut b [] = elim (is_feed b) as (λ t. (if t then [] ∷ [] else (b ∷ []) ∷ []) ≡ take (cond (not t) (1 + 0) 0) (b ∷ []) ∷ lines_of (drop (suc (cond (not t) (1 + 0) 0)) (b ∷ []))) [ true ↦ refl | false ↦ refl ]
cut b (c ∷ bs) = cut-by b (c ∷ bs) (cut c bs) (is_feed b)

-- ---- as it is cut: at the first line feed, or not at all

found : (t : Bool) (k n : ℕ) → cond t (Some k) None ≡ Some n → k ≡ n
found true k n h = cc
found false k n h = cc

none : (t : Bool) (k : ℕ) → cond t (Some k) None ≡ None → t ≡ false
none true k h = cc
none false k h = refl

pub first-line : (bs : List ℕ) (n : ℕ) → 0 < length bs → position is_feed bs ≡ Some n → lines_of bs ≡ take n bs ∷ lines_of (take (length bs - (n + 1)) (drop (n + 1) bs))
first-line [] n some h = absurd (omega (arith, some))
first-line (b ∷ bs) n some h =
    let here = found (nat_lt (end (b ∷ bs)) (length (b ∷ bs))) (end (b ∷ bs)) n h in
    let rest = take_all (length (b ∷ bs) - (n + 1)) (drop (n + 1) (b ∷ bs)) (omega (arith, length-drop (n + 1) (b ∷ bs))) in
    rw (rest, add-one, ← here) (cut b bs)

pub only-line : (bs : List ℕ) → 0 < length bs → position is_feed bs ≡ None → lines_of bs ≡ bs ∷ lines_of []
only-line [] some h = absurd (omega (arith, some))
only-line (b ∷ bs) some h =
    let past = ltb-false (end (b ∷ bs)) (length (b ∷ bs)) (none (nat_lt (end (b ∷ bs)) (length (b ∷ bs))) (end (b ∷ bs)) h) in
    let all = take_all (end (b ∷ bs)) (b ∷ bs) past in
    let rest = drop_all (suc (end (b ∷ bs))) (b ∷ bs) (omega (arith, past)) in
    cut b bs ∙ rw (all, rest) refl
