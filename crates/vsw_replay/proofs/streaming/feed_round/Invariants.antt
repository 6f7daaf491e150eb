use Rattle.std.proofs.Common.{◌≡◌, ◌≤◌, ◌+◌, ◌-◌, ℕ, List, length}
use Rattle.vsw_commandfile.specs.declared.line.Line.{Line}
use Rattle.vsw_crew.specs.Crew.{CrewSeen}
use Rattle.vsw_crew.specs.StreamShares.{StreamSeen}
use Rattle.vsw_crew.specs.Switch.{SwitchNow}
use Rattle.vsw_host.specs.Outside.{Outside}
use Rattle.vsw_promise.specs.Jobs.{Setting}
use Rattle.vsw_replay.specs.Private.Begun.{IsPart}
use Rattle.vsw_replay.specs.Private.Going.{IsNear}
use Rattle.vsw_replay.specs.Private.Streaming.{IsFeedingBut}
use Rattle.vsw_replay.proofs.streaming.feed_round.Given as goal

abbrev pub invariant-loop-stop : goal.invariant-loop-stop
invariant-loop-stop g l = record {
  goes : (s : Setting) (start : Outside) (name : List ℕ) (switch : SwitchNow) → IsPart s start (g.H.Host.outside l.fn.host) name l.fn.run switch l.begun.first l.begun.next → IsPart s start (g.H.Host.outside l.host) name l.run switch l.begun.first l.begun.next;
  feeds : (c : CrewSeen) (lines : List Line) (first : ℕ) (out : List StreamSeen) → c.harbour ≡ l.crew.harbour → IsFeedingBut c lines first l.fn.run.reading.batch l.fn.feeding out → IsFeedingBut c lines first l.run.reading.batch l.feeding out;
  near : IsNear (g.H.Host.outside l.host) l.run l.begun;
  room : l.begun.first + length l.run.reading.batch ≤ l.begun.next;
  most : l.feeding.most ≡ l.fn.feeding.most;
}

abbrev pub decreases-loop-stop : goal.decreases-loop-stop
decreases-loop-stop g l = l.begun.next - length l.run.reading.batch
