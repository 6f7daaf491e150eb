use Rattle.std.proofs.Common.{map, refl}
use Rattle.vsw_policy.specs.Layer.{seen, without_pair}
use Rattle.vsw_policy.proofs.At.{sound-at, good-gone}
use Rattle.vsw_policy.proofs.policy.Policy.remove_pair.Goals as goal

pub invariant_of-self : goal.invariant_of-self
invariant_of-self c =
    let ls = map seen c.self.inside.ordered.items in
    sound-at c.self.inside.named ls _ _ _ c.args.place (without_pair c.args.number) (λ l. (refl, refl, refl)) (good-gone c.self.inside.named c.args.number c.args.place ls c.self.invariant.layers.good) c.self.invariant c.remove_at.ensures.gone
