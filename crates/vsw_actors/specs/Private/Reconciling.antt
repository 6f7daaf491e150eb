-- The reconciler in a round.
use Rattle.std.specs.Prelude.{◌≡◌, ◌+◌, ◌*◌, ℕ, suc}
use Rattle.std.specs.Prelude.{◌%◌}

-- how many of its jobs are done, and how many are left
pub record Tally : Type 0 where
  pub done : ℕ
  pub left : ℕ

-- the first job that was left is done
abbrev pub HasOneMore : Tally → Tally → Type 0
HasOneMore before after = (before.left ≡ suc after.left) × (after.done ≡ suc before.done)

-- none was left
abbrev pub HasNone : Tally → Tally → Type 0
HasNone before after = (before.left ≡ 0) × (after ≡ before)

-- the rounds take 256 rows each, one after the other, and begin again behind the last row
abbrev pub row_in_turn : ℕ → ℕ → ℕ → ℕ
row_in_turn round before rows = (256 * round + before) % rows
