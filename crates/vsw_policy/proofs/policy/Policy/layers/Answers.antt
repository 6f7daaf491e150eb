use Rattle.vsw_policy.proofs.Counts.{few-layers}
use Rattle.vsw_policy.proofs.policy.Policy.layers.Goals as goal

pub returns-clause-few : goal.returns-clause-few
returns-clause-few c = rw c.deref.ensures.value (few-layers c.self.inside.named c.self.inside.ordered.items _ c.self.invariant)
