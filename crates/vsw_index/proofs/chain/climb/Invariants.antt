use Rattle.std.proofs.Common.{◌≤◌, length}
use Rattle.std.specs.List.{AllWithin}
use Rattle.vsw_index.specs.declared.chain.Node.{Node}
use Rattle.vsw_index.specs.Chain.{node_counts}
use Rattle.vsw_index.proofs.Least.{BestWithin}
use Rattle.vsw_index.proofs.chain.climb.Given as goal

abbrev pub invariant-loop-left : goal.invariant-loop-left
invariant-loop-left l = record {
  within : l.left ≤ length l.nodes;
  below : AllWithin (λ (n : Node). n.span.low ≤ l.address) l.nodes 0 l.left;
  best : BestWithin (node_counts l.address l.from) (λ (n : Node). n.span.place) l.nodes l.left (length l.nodes) l.found;
}

abbrev pub decreases-loop-left : goal.decreases-loop-left
decreases-loop-left l = l.left
