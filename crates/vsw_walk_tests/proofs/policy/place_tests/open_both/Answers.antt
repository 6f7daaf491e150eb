use Rattle.std.proofs.Common.{rules, tests, arith, sym, subst, ◌∙◌}
use Rattle.vsw_policy.specs.Layer.{with_pair, CanTake}
use Rattle.vsw_policy.specs.Layers.{At}
use Rattle.vsw_policy.proofs.At.{at-beside}
use Rattle.vsw_walk_tests.proofs.policy.place_tests.open_both.Goals as goal

pub add_pair-requires-2-clause-suits : goal.add_pair-requires-2-clause-suits
add_pair-requires-2-clause-suits c =
    let suits : At 1 (CanTake c.next_at-second.result) c.args.policy.now.layers = search (rules, tests) in
    let still = subst (At 1 (CanTake c.next_at-second.result)) (sym (c.reserve_pair-2.ensures.layers ∙ c.reserve_pair.ensures.layers)) suits in
    subst (At 1 (CanTake c.next_at-second.result)) (sym c.add_pair.ensures.added)
    (at-beside (CanTake c.next_at-second.result) (with_pair c.next_at-first.result) _ 0 1 (λ e. grind arith) still)
