-- What is kept of the rows: which stand at each spot, and the looks of each.
use Rattle.std.specs.Prelude.{ℕ, List, [], slice_index_or}
use Rattle.vsw_walk.specs.declared.scratch.Looked.{Looked}
use Rattle.vsw_flows.specs.Spots.{SpreadSeen}

pub record Leant : Type 0 where
  pub spots : SpreadSeen
  pub kept : List (List Looked)

-- the looks that are kept of the row at a place
abbrev pub kept_at : List (List Looked) → ℕ → List Looked
kept_at kept place = slice_index_or kept place []
