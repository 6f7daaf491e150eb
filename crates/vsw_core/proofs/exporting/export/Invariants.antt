use Rattle.std.proofs.Common.{◌≡◌, ◌≤◌, length}
use Rattle.vsw_core.specs.Exporting.{IsWide, current_rows}
use Rattle.vsw_policy.specs.Sound.{Each}
use Rattle.vsw_rows.specs.GoodRows.{IsGoodRow, opening_of}
use Rattle.vsw_core.proofs.exporting.export.Given as goal

abbrev pub invariant-loop-row : goal.invariant-loop-row
invariant-loop-row l = record {
  same : l.rows ≡ l.initial.rows;
  taken : l.taken ≡ current_rows l.row l.initial.rows;
  good : Each (IsGoodRow (opening_of l.fn.lookup.1) l.initial.rows.view.history) l.taken;
  wide : Each IsWide l.taken;
  few : length l.taken ≤ l.row;
}
