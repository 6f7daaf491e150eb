use Rattle.std.proofs.Common.{rules, ◌∙◌, ap, not, filter, length}
use Rattle.vsw_layerflow.specs.declared.pair.Pair.{Pair}
use Rattle.vsw_layerflow.specs.Pairs.{of_marked}
use Rattle.vsw_layerflow.proofs.InOrder.{count-in_order}
use Rattle.vsw_layerflow.proofs.Unordered.{counted-in_order, swept-in_order}
use Rattle.vsw_layerflow.proofs.flows.Flows.drop_marked.Goals as goal

pub invariant_of-self : goal.invariant_of-self
invariant_of-self c = (swept-in_order (λ (p : Pair). not (of_marked c.args.group c.args.marks.now p)) c.self.inside.pairs.entries _ c.self.inside.places.entries _ c.self.invariant c.keep_unmarked.ensures.entries c.keep_known.ensures.place).0

pub returns-clause-gone : goal.returns-clause-gone
returns-clause-gone c =
    (swept-in_order (λ (p : Pair). not (of_marked c.args.group c.args.marks.now p)) c.self.inside.pairs.entries _ c.self.inside.places.entries _ c.self.invariant c.keep_unmarked.ensures.entries c.keep_known.ensures.place).1
    ∙ ap (λ w. filter (λ (p : Pair). not (of_marked c.args.group c.args.marks.now p)) w.pairs) c.self.view_is

pub overflow_sub-result : goal.overflow_sub-result
overflow_sub-result c = (counted-in_order (of_marked c.args.group c.args.marks.now) c.self.inside.pairs.entries _ _ _ c.len-before.ensures.len c.len.ensures.len c.keep_unmarked.ensures.entries).0

pub returns-clause-count : goal.returns-clause-count
returns-clause-count c =
    (counted-in_order (of_marked c.args.group c.args.marks.now) c.self.inside.pairs.entries _ _ _ c.len-before.ensures.len c.len.ensures.len c.keep_unmarked.ensures.entries).1
    ∙ ap (λ w. length (filter (of_marked c.args.group c.args.marks.now) w.pairs)) c.self.view_is

pub overflow_cast-result : goal.overflow_cast-result
overflow_cast-result c =
    let e = count-in_order c.self.inside.pairs.entries in
    let f = c.self.invariant.few in
    search rules
