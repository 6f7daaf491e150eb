use Rattle.std.proofs.Common.{rules, ◌<◌, ◌==◌, not, length, arith}
use Rattle.vsw_layerflow.specs.declared.pair.Pair.{Pair}
use Rattle.vsw_layerflow.specs.Pairs.{without}
use Rattle.vsw_layerflow.proofs.Order.{below_filter, below_new, length-filter}
use Rattle.vsw_walk_tests.proofs.walk.replace_tests.replace.Goals as goal

pub replace-requires-clause-number_new : goal.replace-requires-clause-number_new
replace-requires-clause-number_new c =
    rw c.reserve_one.ensures.same (below_new c.args.pair.number (without c.args.number c.args.flows.now.pairs) (below_filter (λ (r : Pair). not (c.args.number == r.number)) c.args.pair.number c.args.flows.now.pairs c.requires.number_last))

pub replace-requires-clause-few : goal.replace-requires-clause-few
replace-requires-clause-few c =
    let small : length c.args.flows.now.pairs < 4294967295 = search rules in
    let fewer = length-filter (λ (r : Pair). not (c.args.number == r.number)) c.args.flows.now.pairs in
    rw c.reserve_one.ensures.same (omega (arith, small, fewer))
