use Rattle.std.proofs.Common.{◌<◌, ◌^◌, rules}
use Rattle.std.proofs.lemmas.List.Sorted.{IsNonDecreasingBy-from_sort_by_key, All-permutation}
use Rattle.vsw_index.specs.declared.span.Span.{Span}
use Rattle.vsw_index.specs.Chain.{key}
use Rattle.vsw_index.proofs.Ordered.{in_order}
use Rattle.vsw_index.proofs.order.put_in_order.Goals as goal

pub returns-clause-in_order : goal.returns-clause-in_order
returns-clause-in_order c =
    in_order _ (All-permutation (λ (s : Span). s.place < 2 ^ 32) _ _ c.sort_unstable_by_key.ensures.permutation c.requires)
    (IsNonDecreasingBy-from_sort_by_key key _ c.sort_unstable_by_key.ensures.sorted (λ a r q k. search rules))
