-- On which spots rows lean, and which rows stand at one.
use Rattle.std.specs.Prelude.{ℕ, ◌==◌, ◌&&◌, List, Bool, false, Option, Some, None, slice_index_or}
use Rattle.vsw_walk.specs.declared.scratch.Looked.{Looked}
use Rattle.vsw_layerflow.specs.declared.pair.Probe.{Probe}
use Rattle.vsw_layerflow.specs.Pairs.{probe, same_probe}
use Rattle.vsw_flows.specs.declared.leaners.Leaners.{Leaners}
use Rattle.vsw_flows.specs.declared.spot.Spot.{Spot}
use Rattle.vsw_flows.specs.declared.spot.Spot.TheVariants.{Missed, Found}
use Rattle.vsw_flows.specs.declared.mixing.Factors.{Factors}
use Rattle.vsw_flows.specs.Leaners.{has, none}
use Rattle.vsw_flows.specs.Mixing.{place_of}

abbrev pub same_spot : Spot → Spot → Bool
same_spot (Missed a k) (Missed b m) = (a == b) && same_probe k m
same_spot (Missed a k) (Found b n) = false
same_spot (Found a n) (Missed b k) = false
same_spot (Found a n) (Found b m) = (a == b) && (n == m)

-- a look that finds no pair leans on its direction and key, one that finds a pair on that
abbrev pub spot_by : ℕ → Probe → Option ℕ → Spot
spot_by place k None = Missed place k
spot_by place k (Some number) = Found place number

abbrev pub spot_of : Looked → Spot
spot_of q = spot_by q.layer (probe q.dir q.key) q.found

-- a table of rows that stand at places, with what tells the place of a spot
pub record SpreadSeen : Type 0 where
  pub factors : Factors
  pub count : ℕ
  pub table : List Leaners

-- the rows that stand at a place
abbrev pub stood : List Leaners → ℕ → Leaners
stood table place = slice_index_or table place none

-- those that stand at a spot
abbrev pub leaners_in : SpreadSeen → Spot → Leaners
leaners_in s spot = stood s.table (place_of s.factors spot s.count)

-- a row is one of them
abbrev pub stands : SpreadSeen → Spot → ℕ → Bool
stands s spot r = has (leaners_in s spot) r
