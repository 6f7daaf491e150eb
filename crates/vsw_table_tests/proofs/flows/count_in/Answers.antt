use Rattle.std.proofs.Common.{arith, length-set, ◌∙◌}
use Rattle.vsw_table_tests.proofs.Told.{so_far_next, so_far_first, tallies_next}
use Rattle.vsw_table_tests.proofs.flows.count_in.Goals as goal

pub loop-flow-init : goal.loop-flow-init
loop-flow-init c = (c.told-tallies, so_far_first c.args.entry c.args.tallies.now)

pub loop-flow-preserved : goal.loop-flow-preserved
loop-flow-preserved c = (
  length-set c.loop-flow.tallies c.loop-flow.flow c.tallied.result ∙ c.loop-flow.invariant.0,
  so_far_next c.loop-flow.flow c.args.entry c.tallied.result c.args.tallies.now c.loop-flow.tallies (omega (arith, c.loop-flow-test.true)) c.loop-flow.invariant.0 c.tallied.ensures c.loop-flow.invariant.1,
)

pub returns : goal.returns
returns c = λ h are. tallies_next h c.args.tallies.now c.loop-flow.tallies c.args.entry c.loop-flow.flow (omega (arith, c.loop-flow-test.false)) are c.loop-flow.invariant.1
