use Rattle.vsw_layerflow.proofs.Order.{below_new}
use Rattle.vsw_policy.proofs.layer.Layer.add_pair.Goals as goal

pub add-requires-clause-number_new : goal.add-requires-clause-number_new
add-requires-clause-number_new c = rw c.requires.suits.number_next (below_new c.args.self.now.next_pair c.args.self.now.flows.pairs c.requires.suits.number_last)
