use Rattle.std.proofs.Common.{rules}
use Rattle.std.proofs.lemmas.List.Sorted.{IsNonDecreasingBy-from_sort_by_key}
use Rattle.vsw_promise.proofs.Stable.{stable}
use Rattle.vsw_promise.specs.declared.schedule.Entry.{Entry}
use Rattle.vsw_promise.proofs.schedule.put_in_order.Goals as goal

pub returns-in-Ok-clause-in_order : goal.returns-in-Ok-clause-in_order
returns-in-Ok-clause-in_order c = IsNonDecreasingBy-from_sort_by_key (λ (e : Entry). e.at) _ c.in-Ok.ensures.sorted (λ a r q k. search rules)

pub returns-in-Ok-clause-stable : goal.returns-in-Ok-clause-stable
returns-in-Ok-clause-stable c = stable _ _ c.in-Ok.ensures.stable (λ a r q k. search rules)
