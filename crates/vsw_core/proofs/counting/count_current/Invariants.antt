use Rattle.std.proofs.Common.{◌≡◌, ◌≤◌}
use Rattle.vsw_core.specs.Core.{current_among}
use Rattle.vsw_core.proofs.counting.count_current.Given as goal

abbrev pub invariant-loop-row : goal.invariant-loop-row
invariant-loop-row l = (l.rows ≡ l.initial.rows) × (l.count ≡ current_among l.row l.initial.rows) × (l.count ≤ l.row)
