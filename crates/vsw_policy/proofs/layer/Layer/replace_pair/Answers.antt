use Rattle.vsw_layerflow.specs.Pairs.{without}
use Rattle.vsw_layerflow.proofs.Order.{below_new}
use Rattle.vsw_policy.proofs.layer.Layer.replace_pair.Goals as goal

pub replace-requires-clause-number_new : goal.replace-requires-clause-number_new
replace-requires-clause-number_new c = rw c.requires.suits.number_next (below_new c.args.self.now.next_pair (without c.args.number c.args.self.now.flows.pairs) c.requires.suits.number_last)
