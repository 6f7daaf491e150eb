-- The way of a packet without a control through the layers of a port: all that a row may say of it.
use Rattle.std.specs.Prelude.{ℕ, List, Bool}
use Rattle.vsw_base.specs.declared.fate.Verdict.{Verdict}
use Rattle.vsw_base.specs.declared.flow.Crossing.{Crossing}
use Rattle.vsw_base.specs.declared.flow.Ufid.{Ufid}
use Rattle.vsw_base.specs.declared.header.Header.{Header}
use Rattle.vsw_base.specs.declared.packet.Control.TheVariants.{None}
use Rattle.vsw_port.specs.Cross.{makes}
use Rattle.vsw_walk.specs.declared.scratch.Looked.{Looked}
use Rattle.vsw_walk.specs.Walk.{until_of, walk_of}
use Rattle.vsw_policy.specs.Layer.{LayerSeen}

-- a packet of this identity that has no control. Nothing else of it shows in its way
abbrev pub plain : Ufid → Crossing
plain id = record { caller = 0; packet = 0; id = id; control = None; moment = 0; sizes = record { whole = 0; one = 0; two = 0 } }

-- the verdict, the headers with which the packet ends, how many of their encapsulations were kept, whether it wants a pair made, and the
-- moment up to which it renews no last use
pub record Way : Type 0 where
  pub verdict : Verdict
  pub stack : List Header
  pub kept : ℕ
  pub makes : Bool
  pub until : ℕ

-- the way of the packets of an identity
unfoldable pub way_of : List LayerSeen → Ufid → Way
way_of ls id = record {
  verdict = (walk_of ls (plain id)).verdict;
  stack = (walk_of ls (plain id)).stack;
  kept = (walk_of ls (plain id)).kept;
  makes = makes (walk_of ls (plain id)).changes;
  until = until_of (walk_of ls (plain id));
}

-- what such a packet looks for in the layers that it meets, the one that drops it included
abbrev pub looks : List LayerSeen → Ufid → List Looked
looks ls id = (walk_of ls (plain id)).looked
