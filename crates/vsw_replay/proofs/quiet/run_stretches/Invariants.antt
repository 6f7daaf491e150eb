use Rattle.std.proofs.Common.{◌≡◌, ◌-◌, ℕ, List}
use Rattle.vsw_host.specs.Outside.{Outside, SameOutputs}
use Rattle.vsw_promise.specs.Jobs.{Setting}
use Rattle.vsw_crew.specs.Switch.{AreServed}
use Rattle.vsw_replay.specs.Private.Exporting.{unput}
use Rattle.vsw_replay.specs.Private.Going.{IsFilled, IsNear}
use Rattle.vsw_replay.proofs.quiet.run_stretches.Given as goal

abbrev pub invariant-loop-next : goal.invariant-loop-next
invariant-loop-next g l = record {
  filled : (s : Setting) (start : Outside) (name : List ℕ) → s.commands ≡ l.fn.schedule → IsFilled s (unput start) (g.H.Host.outside l.fn.host) name l.fn.run l.fn.switch l.fn.first → IsFilled s (unput start) (g.H.Host.outside l.host) name l.run l.switch l.stretch;
  near : IsNear (g.H.Host.outside l.host) l.run l.stretch;
  outputs : SameOutputs (g.H.Host.outside l.fn.host) (g.H.Host.outside l.host);
  served : AreServed l.switch l.fn.schedule;
}

abbrev pub decreases-loop-next : goal.decreases-loop-next
decreases-loop-next g l = 1048577 - l.stretch.first
