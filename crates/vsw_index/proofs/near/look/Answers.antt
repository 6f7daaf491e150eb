use Rattle.std.proofs.Common.{◌≤◌, ◌<◌, ltb, rules, arith, length, get_or}
use Rattle.std.proofs.lemmas.Bool.{ltb-true, ltb-false}
use Rattle.std.proofs.lemmas.List.Sorted.{IsPartitionPoint-from_clause, IsPartitionedBy-ltb}
use Rattle.vsw_index.specs.declared.placed_range.PlacedRange.{PlacedRange}
use Rattle.vsw_index.proofs.Nearby.{early, first, nowhere}
use Rattle.vsw_index.proofs.near.look.Goals as goal
use Rattle.vsw_index.proofs.near.look.Goals.{then-is_last, else-is_last}

pub loop-at-init : goal.loop-at-init
loop-at-init c =
    let parted = IsPartitionedBy-ltb (λ (r : PlacedRange). r.place) _ c.args.from c.requires in
    let point = IsPartitionPoint-from_clause (λ (r : PlacedRange). ltb r.place c.args.from) _ _ c.partition_point-start.ensures.partitioned parted (λ a r q k. search rules) in
    λ k d low high. early c.args.value c.args.from (get_or c.args.ranges.now k d) (ltb-true (get_or c.args.ranges.now k d).place c.args.from (point.0 k d low high))

pub returns-then-value-range : goal.returns-then-value-range
returns-then-value-range c =
    let parted = IsPartitionedBy-ltb (λ (r : PlacedRange). r.place) _ c.args.from c.requires in
    let point = IsPartitionPoint-from_clause (λ (r : PlacedRange). ltb r.place c.args.from) _ _ c.partition_point-start.ensures.partitioned parted (λ a r q k. search rules) in
    let e : PlacedRange = record { place = 0; low = 0; high = 0 } in
    let begun : c.partition_point-start.result ≤ c.loop-at.at = c.loop-at.auto.at in
    let within : c.loop-at.at < length c.args.ranges.now = elim c.if-is_last.branch [ then-is_last w ↦ omega arith | else-is_last w ↦ omega arith ] in
    first c.args.value c.args.from c.args.ranges.now c.loop-at.at e c.requires within c.if-range-value.true c.if-value-range.true
    (ltb-false (get_or c.args.ranges.now c.loop-at.at e).place c.args.from (point.1 c.loop-at.at e begun within)) c.loop-at.invariant

pub returns-then-end-ranges : goal.returns-then-end-ranges
returns-then-end-ranges c = nowhere c.args.value c.args.from c.args.ranges.now c.loop-at.at (omega arith) c.loop-at.invariant
