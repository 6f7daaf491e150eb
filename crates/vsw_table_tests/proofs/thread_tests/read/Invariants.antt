use Rattle.std.proofs.Common.{◌≡◌, Some}
use Rattle.vsw_table_tests.proofs.thread_tests.read.Given as goal

abbrev pub invariant-loop-place : goal.invariant-loop-place
invariant-loop-place l = (l.pass.table ≡ l.lookup.0) × (l.pass.view.opening ≡ Some l.lookup.1)
