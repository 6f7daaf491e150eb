-- The rows that are current, one place after the other.
use Rattle.std.proofs.Common.{◌≡◌, ◌<◌, ◌≤◌, ◌+◌, ◌^◌, ◌++◌, ◌==◌, ℕ, suc, Bool, true, false, List, [], ◌∷◌, length, refl, ap, sym, ◌∙◌, arith, length-append, slice_index}
use Rattle.std.specs.Prelude.{if◌then◌else◌}
use Rattle.vsw_core.specs.Exporting.{current_at, current_rows}
use Rattle.vsw_policy.specs.Sound.{Each}
use Rattle.vsw_table.specs.Rules.{row_at, stamp_at}
use Rattle.vsw_flows.specs.Flows.{IsCurrent, Writing}

by_stamp : (v : Writing) (place : ℕ) (b : Bool) → (stamp_at v.view.stamps place == 0) ≡ b → current_at v place ≡ (if b then [] else row_at v.view.rows place ∷ [])
by_stamp v place b e = ap (λ (c : Bool). if c then [] else row_at v.view.rows place ∷ []) e

-- a row that is current is given, one that isn't is left out
pub is_given : (v : Writing) (place : ℕ) → IsCurrent v place → current_at v place ≡ row_at v.view.rows place ∷ []
is_given v place current = by (stamp_at v.view.stamps place == 0) refl
  where
    by : (b : Bool) → (stamp_at v.view.stamps place == 0) ≡ b → current_at v place ≡ row_at v.view.rows place ∷ []
    by false e = by_stamp v place false e
    by true e = absurd (current (grind (arith, e)))

pub is_left_out : (v : Writing) (place : ℕ) → stamp_at v.view.stamps place ≡ 0 → current_at v place ≡ []
is_left_out v place old = by_stamp v place true (ap (λ k. k == 0) old)

-- one place more
pub one_more : (v : Writing) (n : ℕ) → current_rows (n + 1) v ≡ current_rows n v ++ current_at v n
one_more v n = let more : n + 1 ≡ suc n = omega arith in ap (λ k. current_rows k v) more

-- at most one row stands at a place
few_at : (v : Writing) (place : ℕ) → length (current_at v place) ≤ 1
few_at v place = by (stamp_at v.view.stamps place == 0) refl
  where
    by : (b : Bool) → (stamp_at v.view.stamps place == 0) ≡ b → length (current_at v place) ≤ 1
    by false e = let is = ap length (by_stamp v place false e) in omega (arith, is)
    by true e = let is = ap length (by_stamp v place true e) in omega (arith, is)

pub few_more : (v : Writing) (n : ℕ) (rows : List (List ℕ)) → length rows ≤ n → length (rows ++ current_at v n) ≤ n + 1
few_more v n rows few = let long = length-append rows (current_at v n) in let one = few_at v n in omega (arith, long, one, few)

-- words each of which is one of 64 bits
pub each_below : (ws : List ℕ) → ((i : ℕ) → slice_index ws i < 2 ^ 64) → Each (λ w. w < 2 ^ 64) ws
each_below [] f = tt
each_below (w ∷ ws) f = (f 0, each_below ws (λ i. f (suc i)))
