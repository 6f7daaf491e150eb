use Rattle.std.proofs.Common.{◌≡◌, ◌+◌, Some}
use Rattle.vsw_table_tests.specs.Flows.{AreTallies}
use Rattle.vsw_table_tests.proofs.thread_tests.write.Given as goal

abbrev pub invariant-loop-done : goal.invariant-loop-done
invariant-loop-done l = (l.writer.table ≡ l.lookup.0) × (l.pass.table ≡ l.lookup.0) × (l.writer.view.opening ≡ Some l.lookup.1) × (l.pass.view.opening ≡ Some l.lookup.1)
    × (l.pass.view.number ≡ 0) × (l.pass.view.permits + l.done ≡ 100000) × AreTallies l.writer.view.history l.tallies
