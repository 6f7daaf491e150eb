-- Rows of a port: when one is good, on what it leans, and which packets it may answer.
use Rattle.std.specs.Prelude.{◌≡◌, ◌≤◌, ℕ, List, Bool, true, false}
use Rattle.vsw_base.specs.declared.fate.Verdict.{Verdict}
use Rattle.vsw_base.specs.declared.fate.Verdict.TheVariants.{Pass}
use Rattle.vsw_base.specs.declared.flow.Crossing.{Crossing}
use Rattle.vsw_base.specs.declared.flow.Ufid.{Ufid}
use Rattle.vsw_base.specs.declared.packet.Control.TheVariants.{None}
use Rattle.vsw_port.specs.Cross.{makes}
use Rattle.vsw_walk.specs.declared.scratch.Looked.{Looked}
use Rattle.vsw_walk.specs.declared.scratch.Wanted.{Wanted}
use Rattle.vsw_walk.specs.Walk.{until_of, walk_of}
use Rattle.vsw_policy.specs.Layer.{LayerSeen}
use Rattle.vsw_rows.specs.Shaken.{shake}
use Rattle.vsw_rows.specs.Way.{looks, way_of}
use Rattle.vsw_transpose.specs.declared.act.Act.{Act}
use Rattle.vsw_transpose.specs.Apply.{apply}
use Rattle.vsw_transpose.specs.Fits as fit
use Rattle.vsw_words.specs.Row.{IsBare}

-- what a row says of the packets of an identity: the verdict, what the layers do to them, and until when it may answer
pub record Row : Type 0 where
  pub id : Ufid
  pub verdict : Verdict
  pub acts : List Act
  pub until : ℕ

-- a row is good where it says the way of its packets. Where they pass, they want no pair made, and the acts fit them and make of them what
-- the layers do. Where they are dropped, there are no acts
pub record Good (ls : List LayerSeen) (r : Row) : Type 0 where
  pub verdict : r.verdict ≡ (way_of ls r.id).verdict
  pub bare : IsBare r.verdict r.acts
  pub makes : r.verdict ≡ Pass → (way_of ls r.id).makes ≡ false
  pub fits : r.verdict ≡ Pass → fit.fits r.acts r.id.stack ≡ true
  pub stack : r.verdict ≡ Pass → apply r.acts r.id.stack ≡ (way_of ls r.id).stack
  pub kept : r.verdict ≡ Pass → fit.kept r.acts ≡ (way_of ls r.id).kept
  pub until : r.until ≡ (way_of ls r.id).until

-- a row, and the looks on which it leans
pub record LeaningRow : Type 0 where
  pub row : Row
  pub looks : List Looked

-- the row is good, and leans on all that its packets look for
pub record IsGoodLeaning (ls : List LayerSeen) (k : LeaningRow) : Type 0 where
  pub good : Good ls k.row
  pub leans : k.looks ≡ looks ls k.row.id

-- changes shake a row where one of them shakes a look on which it leans
abbrev pub shaken : List LayerSeen → List Wanted → LeaningRow → Bool
shaken ls ws k = shake ls ws k.looks

-- this is the row of a packet's walk. The packet has no control, and wants no pair made if it passes
pub record IsRowOf (ls : List LayerSeen) (x : Crossing) (r : Row) : Type 0 where
  pub control : x.control ≡ None
  pub id : r.id ≡ x.id
  pub verdict : r.verdict ≡ (walk_of ls x).verdict
  pub bare : IsBare r.verdict r.acts
  pub makes : r.verdict ≡ Pass → makes (walk_of ls x).changes ≡ false
  pub fits : r.verdict ≡ Pass → fit.fits r.acts x.id.stack ≡ true
  pub stack : r.verdict ≡ Pass → apply r.acts x.id.stack ≡ (walk_of ls x).stack
  pub kept : r.verdict ≡ Pass → fit.kept r.acts ≡ (walk_of ls x).kept
  pub until : r.until ≡ until_of (walk_of ls x)

-- the row may answer the packet: it is of the row's identity, has no control, and isn't late
pub record MayAnswer (r : Row) (x : Crossing) : Type 0 where
  pub id : x.id ≡ r.id
  pub control : x.control ≡ None
  pub moment : x.moment ≤ r.until
