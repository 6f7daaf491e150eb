use Rattle.std.proofs.Common.{◌≡◌, false}
use Rattle.std.specs.List.{AllWithin}
use Rattle.vsw_index.specs.declared.placed_range.PlacedRange.{PlacedRange}
use Rattle.vsw_index.specs.RangeLeast.{counts}
use Rattle.vsw_index.proofs.near.look.Given as goal

abbrev pub invariant-loop-at : goal.invariant-loop-at
invariant-loop-at l = AllWithin (λ (r : PlacedRange). counts l.value l.fn.from r ≡ false) l.ranges 0 l.at
