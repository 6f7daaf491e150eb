use Rattle.std.proofs.Common.{arith}
use Rattle.vsw_table.specs.Rules.{row_at}
use Rattle.vsw_table_tests.specs.Flows.{IsTold}
use Rattle.vsw_table_tests.proofs.Told.{kept_all}
use Rattle.vsw_table_tests.proofs.settling.settle.Goals as goal

pub returns-clause-kept : goal.returns-clause-kept
returns-clause-kept c = kept_all c.loop-row.writer.view.stamps c.loop-row.row (λ r. IsTold c.args.tallies.now (row_at c.args.writer.now.view.rows r)) (omega (arith, c.rows_of.ensures, c.rows_of-rows.ensures, c.loop-row-test.false)) c.loop-row.invariant.1
