use Rattle.std.proofs.Common.{◌≡◌}
use Rattle.vsw_core.specs.Core.{Begins}
use Rattle.vsw_live_tests.proofs.cores.desk.controller_of.Given as goal

abbrev pub invariant-loop-number : goal.invariant-loop-number
invariant-loop-number l = (l.writer.table ≡ l.lookup.0) × Begins l.lookup.1 l.writer × (l.writer.view.passes ≡ l.number)
