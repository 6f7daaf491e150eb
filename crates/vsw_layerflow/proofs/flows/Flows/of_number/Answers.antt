use Rattle.std.proofs.Common.{◌∙◌, ap, sym}
use Rattle.vsw_layerflow.specs.Pairs.{numbered}
use Rattle.vsw_layerflow.specs.Index.{in_order}
use Rattle.vsw_layerflow.proofs.Lists.{at_number}
use Rattle.vsw_layerflow.proofs.InOrder.{lookup-in_order}
use Rattle.vsw_layerflow.proofs.flows.Flows.of_number.Goals as goal

pub returns : goal.returns
returns c =
    let es = c.self.inside.pairs.entries in
    c.get.ensures.value ∙ sym (lookup-in_order c.args.number es) ∙ at_number c.args.number (in_order es) c.self.invariant.keyed ∙ ap (λ w. numbered c.args.number w.pairs) c.self.view_is
