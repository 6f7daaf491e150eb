use Rattle.std.proofs.Common.{◌+◌}
use Rattle.vsw_layerflow.specs.Pairs.{AllBelow}
use Rattle.vsw_walk_tests.proofs.walk.flow_tests.reopen_thirds.Given as goal

abbrev pub invariant-loop-number : goal.invariant-loop-number
invariant-loop-number l = AllBelow (65536 + l.number) l.flows.pairs
