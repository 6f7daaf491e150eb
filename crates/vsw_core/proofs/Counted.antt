-- How many rows are current.
use Rattle.std.proofs.Common.{◌≡◌, ◌+◌, ◌==◌, ℕ, suc, Bool, true, false, refl, ap, ◌∙◌, arith}
use Rattle.std.specs.Prelude.{if◌then◌else◌}
use Rattle.vsw_core.specs.Core.{current_among}
use Rattle.vsw_table.specs.Rules.{stamp_at}
use Rattle.vsw_flows.specs.Flows.{IsCurrent, Writing}

not_zero : (n : ℕ) → (n ≡ 0 → ⊥) → (n == 0) ≡ false
not_zero n h = by (n == 0) refl
  where
    by : (b : Bool) → (n == 0) ≡ b → (n == 0) ≡ false
    by false e = e
    by true e = absurd (h (grind (arith, e)))

next : (v : Writing) (n : ℕ) (b : Bool) → (stamp_at v.view.stamps n == 0) ≡ b → current_among (n + 1) v ≡ current_among n v + (if b then 0 else 1)
next v n b e =
    let more : n + 1 ≡ suc n = omega arith in
    ap (λ k. current_among k v) more ∙ ap (λ (c : Bool). current_among n v + (if c then 0 else 1)) e

pub one_counted : (v : Writing) (n count : ℕ) → IsCurrent v n → count ≡ current_among n v → count + 1 ≡ current_among (n + 1) v
one_counted v n count current same = let is = next v n false (not_zero (stamp_at v.view.stamps n) current) in omega (arith, is, same)

pub none_counted : (v : Writing) (n count : ℕ) → stamp_at v.view.stamps n ≡ 0 → count ≡ current_among n v → count ≡ current_among (n + 1) v
none_counted v n count old same = let is = next v n true (ap (λ k. k == 0) old) in omega (arith, is, same)
