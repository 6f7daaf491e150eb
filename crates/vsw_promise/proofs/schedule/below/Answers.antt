use Rattle.std.proofs.Common.{ℕ, nat_lt, rules}
use Rattle.std.proofs.lemmas.List.Sorted.{IsPartitionPoint-from_clause, IsPartitionedBy-ltb}
use Rattle.vsw_promise.proofs.Counts.{count_is}
use Rattle.vsw_promise.proofs.schedule.below.Goals as goal

pub returns : goal.returns
returns c =
    let split = IsPartitionPoint-from_clause (λ (y : ℕ). nat_lt y c.args.limit) _ _ c.partition_point.ensures.partitioned (IsPartitionedBy-ltb (λ (y : ℕ). y) _ c.args.limit c.requires) (λ a r q k. search rules) in
    count_is _ _ _ c.partition_point.ensures.bound split.0 split.1
