use Rattle.std.proofs.Common.{◌≡◌, ◌-◌, ℕ, List}
use Rattle.vsw_host.specs.Outside.{Outside}
use Rattle.vsw_promise.specs.Jobs.{Setting}
use Rattle.vsw_crew.specs.Switch.{AreServed}
use Rattle.vsw_replay.specs.Private.Going.{IsFilled, IsNear}
use Rattle.vsw_replay.proofs.trace.run_stretches.Given as goal

abbrev pub invariant-loop-next : goal.invariant-loop-next
invariant-loop-next g l = record {
  filled : (s : Setting) (start : Outside) (name : List ℕ) → s.commands ≡ l.fn.schedule → IsFilled s start (g.H.Host.outside l.fn.host) name l.fn.run l.fn.runner l.fn.first → IsFilled s start (g.H.Host.outside l.host) name l.run l.runner l.stretch;
  near : IsNear (g.H.Host.outside l.host) l.run l.stretch;
  served : AreServed l.runner l.fn.schedule;
}

abbrev pub decreases-loop-next : goal.decreases-loop-next
decreases-loop-next g l = 1048577 - l.stretch.first
