use Rattle.std.proofs.Common.{◌≡◌, ◌-◌, ℕ, List, length}
use Rattle.vsw_host.specs.Outside.{Outside}
use Rattle.vsw_engine.specs.Private.Going.{IsFilled, IsNear}
use Rattle.vsw_engine.proofs.run.run_batches.Given as goal

abbrev pub invariant-loop-next : goal.invariant-loop-next
invariant-loop-next g l = record {
  filled : (start : Outside) (name : List ℕ) → IsFilled l.fn.rows start (g.H.Host.outside l.fn.host) name l.fn.reading 0 l.fn.stop → IsFilled l.fn.rows start (g.H.Host.outside l.host) name l.reading l.first l.stop;
  near : IsNear (g.H.Host.outside l.host) l.reading l.first l.stop;
  room : length l.desk.out.items ≡ 65700;
}

abbrev pub decreases-loop-next : goal.decreases-loop-next
decreases-loop-next g l = 1048577 - l.first
