use Rattle.std.proofs.Common.{map, refl, ap}
use Rattle.vsw_policy.specs.Layer.{room, seen, with_pair, without_pair}
use Rattle.vsw_policy.specs.Layers.{changed_at}
use Rattle.vsw_policy.proofs.At.{sound-at, good-added, good-gone}
use Rattle.vsw_policy.proofs.policy.Policy.replace_pair.Goals as goal

pub invariant_of-self : goal.invariant_of-self
invariant_of-self c =
    let cs = c.self.inside.named in
    let ls = map seen c.self.inside.ordered.items in
    let rooms = map room c.self.inside.ordered.items in
    let place = c.args.place in
    let without = without_pair c.args.number in
    let suits = rw (← (ap (λ p. p.layers) c.self.view_is)) at c.requires.suits in
    let gone = sound-at cs ls (changed_at place without ls) rooms rooms place without (λ l. (refl, refl, refl)) (good-gone cs c.args.number place ls c.self.invariant.layers.good) c.self.invariant refl in
    sound-at cs (changed_at place without ls) _ _ _ place (with_pair c.args.pair.now) (λ l. (refl, refl, refl)) (good-added cs c.args.pair.now place (changed_at place without ls) suits gone.layers.good) gone c.replace_at.ensures.replaced
