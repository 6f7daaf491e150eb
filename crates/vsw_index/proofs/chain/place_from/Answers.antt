use Rattle.std.proofs.Common.{ltb, rules, arith, subst, ◌≡◌, ◌<◌, ℕ, true, length}
use Rattle.std.specs.List.{AllWithin}
use Rattle.std.proofs.lemmas.List.Sorted.{IsPartitionPoint-from_clause, IsPartitionedBy-ltb}
use Rattle.vsw_index.specs.declared.chain.Node.{Node}
use Rattle.vsw_index.proofs.Places.{none_from, some_from}
use Rattle.vsw_index.proofs.chain.place_from.Goals as goal

pub returns-then-at-nodes : goal.returns-then-at-nodes
returns-then-at-nodes c =
    let parted = IsPartitionedBy-ltb (λ (n : Node). n.span.place) _ c.args.from c.requires in
    let point = IsPartitionPoint-from_clause (λ (n : Node). ltb n.span.place c.args.from) _ _ c.partition_point-at.ensures.partitioned parted (λ a r q k. search rules) in
    let P : ℕ → Type 0 = AllWithin (λ (n : Node). ltb n.span.place c.args.from ≡ true) c.args.nodes.now 0 in
    none_from c.args.nodes.now c.args.from (subst P c.if-at-nodes.true point.0)

pub returns : goal.returns
returns c =
    let parted = IsPartitionedBy-ltb (λ (n : Node). n.span.place) _ c.args.from c.requires in
    let point = IsPartitionPoint-from_clause (λ (n : Node). ltb n.span.place c.args.from) _ _ c.partition_point-at.ensures.partitioned parted (λ a r q k. search rules) in
    let within : c.partition_point-at.result < length c.args.nodes.now = omega (arith, c.partition_point-at.ensures.bound) in
    some_from c.args.nodes.now c.args.from c.partition_point-at.result _ within c.requires point.0 point.1
