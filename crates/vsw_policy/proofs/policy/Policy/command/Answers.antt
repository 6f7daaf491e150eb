use Rattle.std.proofs.Common.{◌∙◌, ap, sym, map}
use Rattle.std.specs.Prelude.{filter}
use Rattle.vsw_policy.specs.Layer.{seen}
use Rattle.vsw_policy.specs.Layers.{is_of}
use Rattle.vsw_policy.proofs.Alone.{others-stay}
use Rattle.vsw_policy.proofs.Keeps.{sound-after, sound-still}
use Rattle.vsw_policy.proofs.policy.Policy.command.Goals as goal
use Rattle.vsw_policy.proofs.policy.Policy.command.Goals.{in-Ok-change, in-Err}

pub invariant_of-self : goal.invariant_of-self
invariant_of-self c =
    let ls = map seen c.self.inside.ordered.items in
    let listed = rw (← (ap (λ p. p.controllers) c.self.view_is)) at c.requires.listed in
    let judged = rw c.deref.ensures.value at c.in-Ok.ensures in
    elim c.match-change.branch [
      | in-Ok-change w ↦ sound-after c.self.inside.named ls _ _ _ c.args.controller c.args.command.now c.self.invariant listed c.requires.good (sym judged ∙ c.in_default-refused.is) (rw c.as_slice.ensures at (rw w.in-Ok-change.is at c.change.ensures.ok))
      | in-Err w ↦ sound-still c.self.inside.named ls _ _ _ c.self.invariant (rw w.in-Err.is at c.change.ensures.err)
    ]

pub returns-clause-others : goal.returns-clause-others
returns-clause-others c d e =
    let ls = map seen c.self.inside.ordered.items in
    let view = ap (λ p. filter (is_of d) p.layers) c.self.view_is in
    elim c.match-change.branch [
      | in-Ok-change w ↦ ap (filter (is_of d)) (rw c.as_slice.ensures at (rw w.in-Ok-change.is at c.change.ensures.ok)) ∙ others-stay c.self.inside.named ls c.args.controller c.args.command.now d e ∙ view
      | in-Err w ↦ ap (filter (is_of d)) (rw w.in-Err.is at c.change.ensures.err) ∙ view
    ]
