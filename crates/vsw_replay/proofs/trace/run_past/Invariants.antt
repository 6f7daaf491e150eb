use Rattle.std.proofs.Common.{◌≡◌, ℕ, ◌-◌, List, []}
use Rattle.vsw_host.specs.Outside.{Outside}
use Rattle.vsw_promise.specs.Jobs.{Setting}
use Rattle.vsw_crew.specs.Switch.{AreServed}
use Rattle.vsw_replay.specs.Private.Going.{IsPast}
use Rattle.vsw_replay.proofs.trace.run_past.Given as goal

abbrev pub invariant-loop-next : goal.invariant-loop-next
invariant-loop-next g l = record {
  past : (s : Setting) (start : Outside) (name : List ℕ) → s.commands ≡ l.fn.schedule → IsPast s start (g.H.Host.outside l.fn.host) name l.fn.run.short l.fn.runner l.fn.first → IsPast s start (g.H.Host.outside l.host) name l.run.short l.runner l.first;
  served : AreServed l.runner l.fn.schedule;
  empty : l.run.reading.batch ≡ [];
}

abbrev pub decreases-loop-next : goal.decreases-loop-next
decreases-loop-next g l = 4294967296 - l.first
