use Rattle.std.proofs.Common.{◌≤◌, ◌<◌, length}
use Rattle.std.specs.List.{AllWithin}
use Rattle.vsw_index.specs.declared.chain.Node.{Node}
use Rattle.vsw_index.proofs.chain.reaching.Given as goal

abbrev pub invariant-loop-left : goal.invariant-loop-left
invariant-loop-left l = record {
  within : l.left ≤ length l.nodes;
  passed : AllWithin (λ (n : Node). n.span.high < l.low) l.nodes l.left (length l.nodes);
}

abbrev pub decreases-loop-left : goal.decreases-loop-left
decreases-loop-left l = l.left
