use Rattle.std.proofs.Common.{◌≡◌, ℕ, ◌-◌, List, []}
use Rattle.vsw_host.specs.Outside.{Outside}
use Rattle.vsw_promise.specs.Jobs.{Setting}
use Rattle.vsw_crew.specs.Switch.{AreServed}
use Rattle.vsw_replay.specs.Private.Exporting.{unput}
use Rattle.vsw_replay.specs.Private.Going.{IsPast}
use Rattle.vsw_replay.proofs.quiet.run_past.Given as goal

abbrev pub invariant-loop-next : goal.invariant-loop-next
invariant-loop-next l = record {
  past : (s : Setting) (start now : Outside) (name : List ℕ) → s.commands ≡ l.fn.schedule → IsPast s (unput start) now name l.fn.run.short l.fn.switch l.fn.first → IsPast s (unput start) now name l.run.short l.switch l.first;
  served : AreServed l.switch l.fn.schedule;
  empty : l.run.reading.batch ≡ [];
}

abbrev pub decreases-loop-next : goal.decreases-loop-next
decreases-loop-next l = 4294967296 - l.first
