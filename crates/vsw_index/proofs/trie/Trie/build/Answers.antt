use Rattle.std.proofs.Common.{◌∙◌}
use Rattle.vsw_index.proofs.PrefixAgreed.{agrees}
use Rattle.vsw_index.proofs.trie.Trie.build.Goals as goal

pub invariant_of-result : goal.invariant_of-result
invariant_of-result c =
    let moves = rw c.in_ok-spans.ensures.spans at c.put_in_order.ensures.permutation in
    (c.in_ok-nodes.ensures.chain, rw c.in_ok-items.ensures (agrees c.args.items.now c.in_ok-nodes.nodes.items c.put_in_order.new.spans.items (c.in_ok-nodes.ensures.spans ∙ c.deref.ensures.value) moves))
