-- The steps of reconciling a row: its words are read, its packets walk once more, and what it says is compared with that walk.
use Rattle.std.specs.Prelude.{◌≡◌, ℕ, List, false, true}
use Rattle.vsw_base.specs.declared.fate.Verdict.TheVariants.{Pass}
use Rattle.vsw_base.specs.declared.flow.Crossing.{Crossing}
use Rattle.vsw_base.specs.declared.header.Header.{Header}
use Rattle.vsw_port.specs.Cross.{makes}
use Rattle.vsw_core.specs.Walks.{IsWholeWalk}
use Rattle.vsw_policy.specs.Layer.{LayerSeen}
use Rattle.vsw_rows.specs.Good.{Row}
use Rattle.vsw_rows.specs.Way.{plain}
use Rattle.vsw_rows.specs.Rows.{Says}
use Rattle.vsw_transpose.specs.Apply.{apply}
use Rattle.vsw_transpose.specs.Fits as fit
use Rattle.vsw_walk.specs.declared.walking.Walked.{Walked}
use Rattle.vsw_walk.specs.Walk.{Told}
use Rattle.vsw_words.specs.declared.row.Body.{Body}

-- the row of a packet's identity that says this
abbrev pub row_by : Crossing → Body → Row
row_by x b = record { id = x.id; verdict = b.verdict; acts = b.by; until = b.until }

-- words were read: they say a row, and this is a packet of its identity, of which nothing else shows in a way
pub record IsRead (words : List ℕ) (x : Crossing) (b : Body) : Type 0 where
  pub says : Says words (row_by x b)
  pub packet : x ≡ plain x.id

-- what a row says of packets with these headers is what a walk came to
pub record IsSame (hs : List Header) (b : Body) (walked : Walked) (told : Told) : Type 0 where
  pub verdict : b.verdict ≡ walked.verdict
  pub fits : b.verdict ≡ Pass → fit.fits b.by hs ≡ true
  pub stack : b.verdict ≡ Pass → apply b.by hs ≡ told.stack
  pub kept : b.verdict ≡ Pass → fit.kept b.by ≡ walked.kept

-- the row was read, its packets walked over these layers, and wanted no pair made
pub record IsCompared (ls : List LayerSeen) (words : List ℕ) (x : Crossing) (b : Body) (walked : Walked) (told : Told) : Type 0 where
  pub read : IsRead words x b
  pub walk : IsWholeWalk ls x walked told
  pub quiet : walked.verdict ≡ Pass → makes told.changes ≡ false
