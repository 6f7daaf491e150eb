-- A port that is being opened.
use Rattle.std.specs.Prelude.{◌≡◌, ℕ, List, [], length, replicate}
use Rattle.vsw_core.specs.Core.{total}
use Rattle.vsw_live.specs.Ports.{AreNewPasses}
use Rattle.vsw_flows.specs.Flows.{IsOf, Looking, Writing}

-- a writer as it begins, but for the passes that it has made
pub record HasPasses (l : Looking) (n : ℕ) (w : Writing) (ps : List Writing) : Type 0 where
  pub of : IsOf l w
  pub passes : w.view.passes ≡ n
  pub history : w.view.history ≡ []
  pub stamps : w.view.stamps ≡ replicate l.2 0
  pub rows : w.view.rows ≡ replicate l.2 (replicate 73 0)
  pub permits : total w.view.kept ≡ 0
  pub many : length ps ≡ n
  pub new : AreNewPasses l 0 ps
