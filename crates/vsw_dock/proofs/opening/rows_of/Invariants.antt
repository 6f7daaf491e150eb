use Rattle.std.proofs.Common.{◌≡◌, ◌++◌, ◌-◌}
use Rattle.vsw_dock.specs.Opening.{AreIdle, rows_from, rows_in}
use Rattle.vsw_live.specs.Ports.{items_of}
use Rattle.vsw_dock.proofs.opening.rows_of.Given as goal

abbrev pub invariant-loop : goal.invariant-loop
invariant-loop l = record {
  idle : AreIdle (items_of l.left.items);
  rows : rows_in l.rows.items ++ rows_from (l.fn.count - l.counter) (items_of l.left.items) ≡ rows_from l.fn.count (items_of l.fn.passes.items);
}
