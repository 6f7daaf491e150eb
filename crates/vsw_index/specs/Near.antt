-- What a look at the next few places tells.
use Rattle.std.specs.Prelude.{◌≡◌, ℕ, List, Some, None}
use Rattle.vsw_index.specs.declared.placed_range.PlacedRange.{PlacedRange}
use Rattle.vsw_index.specs.declared.near.Near.{Near}
use Rattle.vsw_index.specs.declared.near.Near.TheVariants.{Place, Nowhere, Farther}
use Rattle.std.specs.List.Sorted.{IsNonDecreasingBy}
use Rattle.vsw_index.specs.declared.block.Block.{Block}
use Rattle.vsw_index.specs.RangeLeast.{least_of}
use Rattle.vsw_index.specs.Block.{IsIndex, Agrees}

-- the least place, or that there is none; or nothing, where it's farther off
abbrev pub IsNear : List PlacedRange → ℕ → ℕ → Near → Type 0
IsNear ranges value from (Place n) = Some n ≡ least_of ranges value from
IsNear ranges value from Nowhere = None ≡ least_of ranges value from
IsNear ranges value from Farther = Unit {0}

-- the same items by place, and by their low ends with blocks
pub record IsInterval (items by_place by_low : List PlacedRange) (blocks : List Block) : Type 0 where
  pub rises : IsNonDecreasingBy (λ r. r.place) by_place
  pub agrees_by_place : Agrees items by_place
  pub index : IsIndex by_low blocks
  pub agrees_by_low : Agrees items by_low
