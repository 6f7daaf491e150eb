use Rattle.std.proofs.Common.{rules, ◌∙◌, ap, sym, length}
use Rattle.vsw_layerflow.proofs.InOrder.{count-in_order}
use Rattle.vsw_layerflow.proofs.flows.Flows.len.Goals as goal

pub overflow_cast-result : goal.overflow_cast-result
overflow_cast-result c =
    let e = count-in_order c.self.inside.pairs.entries in
    let f = c.self.invariant.few in
    search rules

pub returns-clause-count : goal.returns-clause-count
returns-clause-count c = c.len.ensures.len ∙ sym (count-in_order c.self.inside.pairs.entries) ∙ ap (λ w. length w.pairs) c.self.view_is
