use Rattle.std.proofs.Common.{◌≡◌, ◌≢◌, ◌<◌, ℕ}
use Rattle.vsw_table.specs.Rules.{stamp_at, row_at}
use Rattle.vsw_table_tests.specs.Flows.{IsTold}
use Rattle.vsw_table_tests.proofs.settling.settle.Given as goal

abbrev pub invariant-loop-row : goal.invariant-loop-row
invariant-loop-row l = (l.writer ≡ record l.initial.writer { view = record l.initial.writer.view { stamps = l.writer.view.stamps } })
    × ((r : ℕ) → r < l.row → stamp_at l.writer.view.stamps r ≢ 0 → IsTold l.tallies (row_at l.initial.writer.view.rows r))
