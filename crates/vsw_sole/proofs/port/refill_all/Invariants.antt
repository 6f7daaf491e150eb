use Rattle.std.proofs.Common.{◌≡◌, ℕ, length}
use Rattle.vsw_flows.specs.Flows.{IsOf}
use Rattle.vsw_sole.specs.Callers.{IsCaller, Numbered}
use Rattle.vsw_sole.proofs.Callers.{Filled}
use Rattle.vsw_sole.proofs.port.refill_all.Given as goal

abbrev pub invariant-loop-place : goal.invariant-loop-place
invariant-loop-place l = record {
  core : IsOf l.fn.lookup l.core.writer;
  history : l.core.writer.view.history ≡ l.fn.core.writer.view.history;
  edited : l.core.edited ≡ l.fn.core.edited;
  count : length l.callers.items ≡ length l.fn.callers.items;
  callers : (room : ℕ) → Numbered (IsCaller l.fn.lookup l.fn.core.writer.view.history room) 0 l.fn.callers.items → Numbered (IsCaller l.fn.lookup l.fn.core.writer.view.history room) 0 l.callers.items;
  filled : Numbered (Filled l.fn.least l.place) 0 l.callers.items;
}
