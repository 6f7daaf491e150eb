use Rattle.std.proofs.Common.{map, refl, ap}
use Rattle.vsw_policy.specs.Layer.{seen, with_pair}
use Rattle.vsw_policy.proofs.At.{sound-at, good-added}
use Rattle.vsw_policy.proofs.policy.Policy.add_pair.Goals as goal

pub invariant_of-self : goal.invariant_of-self
invariant_of-self c =
    let ls = map seen c.self.inside.ordered.items in
    let suits = rw (← (ap (λ p. p.layers) c.self.view_is)) at c.requires.suits in
    sound-at c.self.inside.named ls _ _ _ c.args.place (with_pair c.args.pair) (λ l. (refl, refl, refl)) (good-added c.self.inside.named c.args.pair c.args.place ls suits c.self.invariant.layers.good) c.self.invariant c.add_at.ensures.added
