use Rattle.std.proofs.Common.{◌≡◌, map, take}
use Rattle.vsw_index.specs.declared.chain.Node.{Node}
use Rattle.vsw_index.specs.Chain.{AreNodes}
use Rattle.vsw_index.proofs.chain.chain_of.Given as goal

abbrev pub invariant-loop-span : goal.invariant-loop-span
invariant-loop-span l = record {
  linked : AreNodes l.nodes.items;
  spans : map (λ (n : Node). n.span) l.nodes.items ≡ take l.span-index l.spans;
}
