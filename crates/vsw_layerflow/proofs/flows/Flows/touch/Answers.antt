use Rattle.std.proofs.Common.{◌∙◌, ap}
use Rattle.vsw_layerflow.specs.Pairs.{touched}
use Rattle.vsw_layerflow.proofs.Unordered.{touched-in_order}
use Rattle.vsw_layerflow.proofs.flows.Flows.touch.Goals as goal

pub invariant_of-self : goal.invariant_of-self
invariant_of-self c = (touched-in_order c.args.number c.args.state c.args.last c.self.inside.pairs.entries c.set_use.new.pairs.entries c.self.inside.places.entries c.self.invariant c.set_use.ensures.some c.set_use.ensures.none).0

pub returns-clause-touched : goal.returns-clause-touched
returns-clause-touched c =
    (touched-in_order c.args.number c.args.state c.args.last c.self.inside.pairs.entries c.set_use.new.pairs.entries c.self.inside.places.entries c.self.invariant c.set_use.ensures.some c.set_use.ensures.none).1
    ∙ ap (λ w. touched c.args.number c.args.state c.args.last w.pairs) c.self.view_is
