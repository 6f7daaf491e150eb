use Rattle.std.proofs.Common.{sym}
use Rattle.std.proofs.Math.Nat.{mod-eq_of_lt}
use Rattle.vsw_table.proofs.look.row_behind.Goals as goal

pub returns-then-row-rows-clause-row : goal.returns-then-row-rows-clause-row
returns-then-row-rows-clause-row c = sym (mod-eq_of_lt c.if-row-rows.true)
