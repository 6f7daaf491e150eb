-- Names stop at the first dashed word.
use Rattle.std.proofs.Common.{◌≡◌, ℕ, suc, ◌+◌, ◌<◌, true, false, not, List, [], ◌∷◌, ◌++◌, length, take, drop, get_or, Some, inl, inr, refl, sym, ap, ◌∙◌, subst, arith}
use Rattle.std.specs.List.{All, position_or_len}
use Rattle.std.proofs.Math.Seq.{take-append_seam, drop-append_seam}
use Rattle.std.proofs.lemmas.Bool.{cond-true, ne_eqb, not_from_false, both_ways}
use Rattle.std.proofs.lemmas.List.{get_or-take}
use Rattle.std.proofs.lemmas.List.Elements.{All-head, All-tail}
use Rattle.std.proofs.lemmas.List.Folds.{length-prefix_len}
use Rattle.std.proofs.lemmas.List.Sums.{fails_before_first}
use Rattle.vsw_run.specs.Grammar.{IsDashed, IsBehind}
use Rattle.vsw_run.specs.Words.{is_dashed, before_dash, from_dash, behind_in}

-- no name is dashed
abbrev pub Undashed : List (List ℕ) → Type 0
Undashed names = All (λ name. ¬ (IsDashed name)) names

no_dash : (word : List ℕ) → ¬ (IsDashed word) → is_dashed word ≡ false
no_dash [] h = refl
no_dash (c ∷ []) h = refl
no_dash (c ∷ d ∷ rest) h = ne_eqb c 45 (λ e. h (d, rest, ap (λ x. x ∷ d ∷ rest) e))

dashless : (word : List ℕ) → is_dashed word ≡ false → ¬ (IsDashed word)
dashless word f h = both_ways (is_dashed word) f (subst (λ w. is_dashed w ≡ true) (sym h.2) refl)

one_more : (k : ℕ) → 1 + k ≡ suc k
one_more k = omega arith

-- the words that follow begin with a dashed one, or there are none
abbrev pub Stops : List (List ℕ) → Type 0
Stops rest = position_or_len is_dashed rest ≡ 0

stop : (names rest : List (List ℕ)) → Undashed names → Stops rest → position_or_len is_dashed (names ++ rest) ≡ length names
stop [] rest h z = z
stop (w ∷ ws) rest h z =
    let P : List ℕ → Type 0 = λ name. ¬ (IsDashed name) in
    cond-true (not (is_dashed w)) (1 + position_or_len is_dashed (ws ++ rest)) 0 (not_from_false (is_dashed w) (no_dash w (All-head P w ws h)))
    ∙ (ap (λ k. 1 + k) (stop ws rest (All-tail P w ws h) z) ∙ one_more (length ws))

pub before_is : (names rest : List (List ℕ)) → Undashed names → Stops rest → before_dash (names ++ rest) ≡ names
before_is names rest h z = ap (λ k. take k (names ++ rest)) (stop names rest h z) ∙ take-append_seam names rest

pub from_is : (names rest : List (List ℕ)) → Undashed names → Stops rest → from_dash (names ++ rest) ≡ rest
from_is names rest h z = ap (λ k. drop k (names ++ rest)) (stop names rest h z) ∙ drop-append_seam names rest

pub undashed : (words : List (List ℕ)) → Undashed (before_dash words)
undashed words = λ k d lt.
    let below : k < position_or_len is_dashed words = subst (λ n. k < n) (length-prefix_len (λ x. not (is_dashed x)) words) lt in
    subst (λ w. ¬ (IsDashed w)) (sym (get_or-take (position_or_len is_dashed words) words k d below)) (dashless (get_or words k d) (fails_before_first is_dashed words k d below))

-- ---- `--` and the names behind it

pub behind_stops : (end behind : List (List ℕ)) → IsBehind end behind → Stops end
behind_stops end behind (inl e) = subst Stops (sym e) refl
behind_stops end behind (inr e) = subst Stops (sym e.0) refl

pub behind_of : (end behind : List (List ℕ)) → IsBehind end behind → behind_in end ≡ Some behind
behind_of end behind (inl e) = ap behind_in e
behind_of end behind (inr e) = ap behind_in e.0 ∙ ap (λ (names : List (List ℕ)). Some names) (sym e.1)
