-- The ranges by their low ends answer as the list of items does.
use Rattle.std.proofs.Common.{ℕ, List}
use Rattle.std.specs.List.Sorted.{IsPermutation}
use Rattle.vsw_index.specs.declared.placed_range.PlacedRange.{PlacedRange}
use Rattle.vsw_index.specs.RangeLeast.{holds, counts, least_of, Answers}
use Rattle.vsw_index.specs.Block.{Agrees}
use Rattle.vsw_index.proofs.Least as least
use Rattle.vsw_index.proofs.Least.{least_by-IsPermutation}

pub agrees : (items ranges : List PlacedRange) → IsPermutation items ranges → Agrees items ranges
agrees items ranges moves v f = least_by-IsPermutation (counts v f) (λ (r : PlacedRange). r.place) items ranges moves

-- the least place, in the words of the list
pub answers : (items : List PlacedRange) (v f : ℕ) → Answers items v f (least_of items v f)
answers items v f = least.answers (holds v) (λ (r : PlacedRange). r.place) items f
