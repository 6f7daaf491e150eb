use Rattle.std.proofs.Common.{◌≤◌, ◌<◌, ◌-◌, length}
use Rattle.std.specs.List.{AllWithin}
use Rattle.vsw_index.specs.declared.placed_range.PlacedRange.{PlacedRange}
use Rattle.vsw_index.specs.RangeLeast.{counts}
use Rattle.vsw_index.proofs.Least.{BestWithin}
use Rattle.vsw_index.proofs.search.search.Given as goal

abbrev pub invariant-loop-at : goal.invariant-loop-at
invariant-loop-at l = record {
  within : l.at ≤ length l.ranges;
  last : l.behind ≤ length l.ranges;
  later : AllWithin (λ (r : PlacedRange). l.value < r.low) l.ranges l.behind (length l.ranges);
  best : BestWithin (counts l.value l.from) (λ (r : PlacedRange). r.place) l.ranges 0 l.at l.found;
}

abbrev pub decreases-loop-at : goal.decreases-loop-at
decreases-loop-at l = length l.ranges - l.at
