use Rattle.std.proofs.Common.{◌∙◌, ap}
use Rattle.std.specs.Map.{values_of}
use Rattle.vsw_layerflow.specs.Pairs.{put_by_number, without}
use Rattle.vsw_layerflow.specs.Index.{in_order}
use Rattle.vsw_layerflow.proofs.Order.{put-last}
use Rattle.vsw_layerflow.proofs.Replaced.{free_after, replaced, replaced-pairs}
use Rattle.vsw_layerflow.proofs.flows.Flows.replace.Goals as goal

pub put_pair-requires-clause-absent : goal.put_pair-requires-clause-absent
put_pair-requires-clause-absent c =
    let v = ap (λ w. w.pairs) c.self.view_is in
    let m = rw (← v) at c.requires.number_new in
    free_after c.args.number c.args.pair.now.number c.self.inside.pairs.entries _ c.self.inside.places.entries c.self.invariant c.drop_pair.ensures.unique c.drop_pair.ensures.gone m

pub invariant_of-self : goal.invariant_of-self
invariant_of-self c =
    let v = ap (λ w. w.pairs) c.self.view_is in
    let f = rw (← v) at c.requires.forward_free in
    let b = rw (← v) at c.requires.reverse_free in
    let m = rw (← v) at c.requires.number_new in
    let w = rw (← v) at c.requires.few in
    rw c.put_pair.ensures.entries (replaced c.args.number c.args.pair.now c.self.inside.pairs.entries _ c.self.inside.places.entries _ c.self.invariant c.drop_pair.ensures.unique c.drop_pair.ensures.gone f b m w c.lead_over.ensures.place)

pub returns-clause-replaced : goal.returns-clause-replaced
returns-clause-replaced c =
    let v = ap (λ w. w.pairs) c.self.view_is in
    let m = rw (← v) at c.requires.number_new in
    ap (λ es. values_of (in_order es)) c.put_pair.ensures.entries
    ∙ replaced-pairs c.args.number c.args.pair.now c.self.inside.pairs.entries _ c.self.inside.places.entries c.self.invariant c.drop_pair.ensures.unique c.drop_pair.ensures.gone m
    ∙ ap (λ l. put_by_number c.args.pair.now (without c.args.number l)) v

pub returns-clause-last : goal.returns-clause-last
returns-clause-last c below = returns-clause-replaced c ∙ put-last c.args.pair.now _ below
