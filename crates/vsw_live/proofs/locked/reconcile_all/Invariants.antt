use Rattle.std.proofs.Common.{◌≡◌}
use Rattle.vsw_live.specs.Private.Locked.{Rewrites}
use Rattle.vsw_flows.specs.Flows.{IsOf}
use Rattle.vsw_live.proofs.locked.reconcile_all.Given as goal

abbrev pub invariant-loop-row : goal.invariant-loop-row
invariant-loop-row l = record {
  core : IsOf l.fn.lookup l.core.writer;
  rows : Rewrites l.fn.core.writer l.core.writer;
  edited : l.core.edited ≡ l.fn.core.edited;
}
