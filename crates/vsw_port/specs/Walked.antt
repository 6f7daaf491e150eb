-- What a walk hands on, as its callers have it.
use Rattle.std.specs.Prelude.{◌≡◌, List}
use Rattle.vsw_base.specs.declared.fate.Verdict.TheVariants.{Pass}
use Rattle.vsw_base.specs.declared.flow.Crossing.{Crossing}
use Rattle.vsw_walk.specs.declared.walking.Walked.{Walked}
use Rattle.vsw_walk.specs.Made.{Leads}
use Rattle.vsw_walk.specs.Walk.{Told, walk_of}
use Rattle.vsw_policy.specs.Layer.{LayerSeen}

-- this was walked and told by this packet over these layers: the verdict and all that it wants, and where it passes the stack with which
-- it does, and how many encapsulations are kept. The actions that it tells make that stack of the packet's own
pub record IsWalk (ls : List LayerSeen) (x : Crossing) (walked : Walked) (told : Told) : Type 0 where
  pub verdict : walked.verdict ≡ (walk_of ls x).verdict
  pub changes : told.changes ≡ (walk_of ls x).changes
  pub stack : walked.verdict ≡ Pass → told.stack ≡ (walk_of ls x).stack
  pub kept : walked.verdict ≡ Pass → walked.kept ≡ (walk_of ls x).kept
  pub leads : Leads x.id.stack told walked.kept
