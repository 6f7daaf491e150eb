-- What is made of a packet's walk: the row of its identity.
use Rattle.std.specs.Prelude.{◌≡◌, ℕ, List}
use Rattle.vsw_base.specs.declared.fate.Verdict.TheVariants.{Pass}
use Rattle.vsw_base.specs.declared.flow.Crossing.{Crossing}
use Rattle.vsw_policy.specs.Layer.{LayerSeen}
use Rattle.vsw_rows.specs.Good.{IsRowOf, Row}
use Rattle.vsw_rows.specs.Rows.{Says}
use Rattle.vsw_walk.specs.declared.walking.Walked.{Walked}
use Rattle.vsw_walk.specs.Made.{Leads}
use Rattle.vsw_walk.specs.Walk.{Told, until_of, walk_of}

-- all that the walk of this packet over these layers hands on
pub record IsWholeWalk (ls : List LayerSeen) (x : Crossing) (walked : Walked) (told : Told) : Type 0 where
  pub verdict : walked.verdict ≡ (walk_of ls x).verdict
  pub changes : told.changes ≡ (walk_of ls x).changes
  pub looked : told.looked ≡ (walk_of ls x).looked
  pub until : walked.until ≡ until_of (walk_of ls x)
  pub stack : walked.verdict ≡ Pass → told.stack ≡ (walk_of ls x).stack
  pub kept : walked.verdict ≡ Pass → walked.kept ≡ (walk_of ls x).kept
  pub leads : Leads x.id.stack told walked.kept

-- words that say the row of the packet's walk
pub record SaysRowOf (ls : List LayerSeen) (x : Crossing) (words : List ℕ) : Type 0 where
  pub row : Row
  pub says : Says words row
  pub walked : IsRowOf ls x row
