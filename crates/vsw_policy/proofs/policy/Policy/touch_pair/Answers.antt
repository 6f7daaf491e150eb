use Rattle.std.proofs.Common.{map, refl}
use Rattle.vsw_policy.specs.Layer.{seen, with_touched}
use Rattle.vsw_policy.proofs.At.{sound-at, good-touched}
use Rattle.vsw_policy.proofs.policy.Policy.touch_pair.Goals as goal

pub invariant_of-self : goal.invariant_of-self
invariant_of-self c =
    let ls = map seen c.self.inside.ordered.items in
    sound-at c.self.inside.named ls _ _ _ c.args.place (with_touched c.args.number c.args.state c.args.last) (λ l. (refl, refl, refl)) (good-touched c.self.inside.named c.args.number c.args.state c.args.last c.args.place ls c.self.invariant.layers.good) c.self.invariant c.touch_at.ensures.touched
