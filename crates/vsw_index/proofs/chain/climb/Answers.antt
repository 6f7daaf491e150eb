use Rattle.std.proofs.Common.{leb, rules, arith, ◌<◌, ◌-◌, get_or}
use Rattle.std.proofs.lemmas.Bool.{leb-true, leb-false}
use Rattle.std.proofs.lemmas.List.Sorted.{IsPartitionPoint-from_clause, IsPartitionedBy-leb}
use Rattle.vsw_index.specs.declared.chain.Node.{Node}
use Rattle.vsw_index.proofs.Places.{begins_behind, group_rises, up_before, climbed_past, climbed_into, climbed_all}
use Rattle.vsw_index.proofs.chain.climb.Goals as goal
use Rattle.vsw_index.proofs.chain.climb.Goals.{then-address-node, else-address-node}

pub loop-left-init : goal.loop-left-init
loop-left-init c =
    let parted = IsPartitionedBy-leb (λ (n : Node). n.span.low) _ c.args.address (λ i j d le within. (c.requires.in_order i j d le within).0) in
    let point = IsPartitionPoint-from_clause (λ (n : Node). leb n.span.low c.args.address) _ _ c.partition_point-left.ensures.partitioned parted (λ a r q k. search rules) in
    record {
      within = c.partition_point-left.ensures.bound;
      below = λ k d low high. leb-true (get_or c.args.nodes.now k d).span.low c.args.address (point.0 k d low high);
      best = λ k d low high. begins_behind c.args.address c.args.from (get_or c.args.nodes.now k d) (leb-false (get_or c.args.nodes.now k d).span.low c.args.address (point.1 k d low high));
    }

pub place_from-requires : goal.place_from-requires
place_from-requires c = group_rises c.args.nodes.now c.loop-left.left _ c.requires c.loop-left-test.true c.loop-left.invariant.within

pub loop-left-preserved : goal.loop-left-preserved
loop-left-preserved c =
    let e : Node = record { span = record { low = 0; high = 0; place = 0 }; first = 0; up = 0 } in
    let up : (get_or c.args.nodes.now (c.loop-left.left - 1) e).up < c.loop-left.left = up_before c.args.nodes.now c.loop-left.left e c.requires c.loop-left-test.true c.loop-left.invariant.within in
    record {
      within = omega arith;
      below = λ k d low high. c.loop-left.invariant.below k d low (omega arith);
      best = elim c.if-address-node.branch [
        | then-address-node w ↦ rw (w.found-is, w.lesser-found.ensures) (climbed_into c.args.nodes.now c.args.address c.args.from c.loop-left.left e w.place_from.result c.loop-left.found c.requires c.loop-left-test.true c.loop-left.invariant.within c.loop-left.invariant.below w.if-address-node.true w.place_from.ensures c.loop-left.invariant.best)
        | else-address-node w ↦ rw w.found-is (climbed_past c.args.nodes.now c.args.address c.args.from c.loop-left.left e c.loop-left.found c.requires c.loop-left-test.true c.loop-left.invariant.within c.loop-left.invariant.below w.if-address-node.false c.loop-left.invariant.best)
      ];
    }

pub returns : goal.returns
returns c = climbed_all c.args.nodes.now c.args.address c.args.from c.loop-left.left c.loop-left.found c.loop-left-test.false c.loop-left.invariant.best
