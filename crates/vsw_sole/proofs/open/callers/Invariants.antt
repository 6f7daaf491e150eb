use Rattle.std.proofs.Common.{◌≡◌, [], length}
use Rattle.vsw_core.specs.Core.{Begins}
use Rattle.vsw_sole.specs.Callers.{IsCaller, Numbered}
use Rattle.vsw_sole.proofs.open.callers.Given as goal

abbrev pub invariant-loop : goal.invariant-loop
invariant-loop l = record {
  begins : Begins l.fn.lookup.1 l.writer;
  table : l.writer.table ≡ l.fn.lookup.0;
  passes : l.writer.view.passes ≡ l.counter;
  callers : Numbered (IsCaller l.fn.lookup [] 0) 0 l.callers.items;
  count : length l.callers.items ≡ l.counter;
}
