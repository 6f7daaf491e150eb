-- Ranges by their low end, and for each place the bounds of a block that begins there.
use Rattle.std.specs.Prelude.{◌≡◌, ℕ, ◌<◌, ◌≤◌, ◌||◌, List, Bool, false, nat_le, nat_lt, length, Option, Some, None, if◌then◌else◌, slice_index_or}
use Rattle.std.specs.List.{AllWithin}
use Rattle.std.specs.List.Sorted.{IsNonDecreasingBy}
use Rattle.vsw_index.specs.declared.placed_range.PlacedRange.{PlacedRange}
use Rattle.vsw_index.specs.declared.block.Block.{Block}
use Rattle.vsw_index.specs.RangeLeast.{counts, least_of}

-- the range is within the block's bounds
abbrev pub IsWithin : Block → PlacedRange → Type 0
IsWithin b r = (r.high ≤ b.most_high) × (b.least_place ≤ r.place) × (r.place ≤ b.most_place)

-- a block of the ranges from place k on up to its end, which are within its bounds
pub record IsBlock (ranges : List PlacedRange) (k : ℕ) (b : Block) : Type 0 where
  pub behind : k < b.end
  pub ends : b.end ≤ length ranges
  pub bounds : AllWithin (IsWithin b) ranges k b.end

-- at each place of the list of blocks is one from there on
abbrev pub AreBlocks : List PlacedRange → List Block → Type 0
AreBlocks ranges blocks = (k : ℕ) (d : Block) → k < length blocks → IsBlock ranges k (slice_index_or blocks k d)

-- ranges that rise by low end, and a block for each place
pub record IsIndex (ranges : List PlacedRange) (blocks : List Block) : Type 0 where
  pub by_low : IsNonDecreasingBy (λ r. r.low) ranges
  pub blocks_are : AreBlocks ranges blocks
  pub count : length blocks ≡ length ranges

-- the place of a range that counts
abbrev pub place_of : ℕ → ℕ → PlacedRange → Option ℕ
place_of value from r = if counts value from r then Some r.place else None

-- a place is there that is no greater
abbrev pub reaches : Option ℕ → ℕ → Bool
reaches None place = false
reaches (Some n) place = nat_le n place

-- no range of the block holds the value at a place from `from` on that is below the one found
abbrev pub is_passed : Block → ℕ → ℕ → Option ℕ → Bool
is_passed b value from found = nat_lt b.most_high value || nat_lt b.most_place from || reaches found b.least_place

-- the ranges answer as the list of items does
abbrev pub Agrees : List PlacedRange → List PlacedRange → Type 0
Agrees items ranges = (value from : ℕ) → least_of ranges value from ≡ least_of items value from
