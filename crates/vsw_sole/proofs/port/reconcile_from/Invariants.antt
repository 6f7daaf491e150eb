use Rattle.std.proofs.Common.{◌≡◌}
use Rattle.vsw_flows.specs.Flows.{IsOf}
use Rattle.vsw_sole.proofs.port.reconcile_from.Given as goal

abbrev pub invariant-loop : goal.invariant-loop
invariant-loop l = record {
  core : IsOf l.fn.lookup l.core.writer;
  history : l.core.writer.view.history ≡ l.fn.core.writer.view.history;
  edited : l.core.edited ≡ l.fn.core.edited;
}
