use Rattle.std.proofs.Common.{◌∙◌, arith}
use Rattle.std.proofs.lemmas.Grind.{common_steps}
use Rattle.std.proofs.lemmas.List.{take_all}
use Rattle.vsw_index.proofs.Chains.{AreNodes-push, below_next, chained}
use Rattle.vsw_index.proofs.chain.chain_of.Goals as goal

pub linked-node-requires-clause-below : goal.linked-node-requires-clause-below
linked-node-requires-clause-below c = rw c.deref.ensures.value (below_next c.loop-span.nodes.items c.args.spans.now c.loop-span.span-index _ c.requires c.loop-span.invariant.spans c.loop-span-test.true)

pub loop-span-preserved : goal.loop-span-preserved
loop-span-preserved c =
    let node = rw c.deref.ensures.value at c.linked-node.ensures.node in
    record {
      linked = rw c.in_ok-push.ensures (AreNodes-push c.loop-span.nodes.items c.linked-node.result c.loop-span.invariant.linked node);
      spans = grind (arith, common_steps);
    }

pub returns-clause-chain : goal.returns-clause-chain
returns-clause-chain c =
    let whole = c.loop-span.invariant.spans ∙ take_all c.loop-span.span-index c.args.spans.now c.loop-span-test.false in
    chained c.loop-span.nodes.items c.args.spans.now c.requires whole c.loop-span.invariant.linked
