use Rattle.std.proofs.Common.{◌≡◌, length}
use Rattle.vsw_table_tests.proofs.Told.{SoFar}
use Rattle.vsw_table_tests.proofs.flows.count_in.Given as goal

abbrev pub invariant-loop-flow : goal.invariant-loop-flow
invariant-loop-flow l = (length l.tallies ≡ 16) × SoFar l.flow l.entry l.initial.tallies l.tallies
