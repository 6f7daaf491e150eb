use Rattle.std.proofs.Common.{rules}
use Rattle.std.proofs.lemmas.List.Sorted.{IsNonDecreasingBy-from_sort_by_key}
use Rattle.vsw_index.specs.declared.placed_range.PlacedRange.{PlacedRange}
use Rattle.vsw_index.proofs.interval.put_by_place.Goals as goal

pub returns-in-Ok-clause-by_place : goal.returns-in-Ok-clause-by_place
returns-in-Ok-clause-by_place c = IsNonDecreasingBy-from_sort_by_key (λ (r : PlacedRange). r.place) _ c.in-Ok.ensures.sorted (λ a r q k. search rules)
