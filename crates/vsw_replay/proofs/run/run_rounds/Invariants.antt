use Rattle.std.proofs.Common.{◌≡◌, ◌≤◌, ◌+◌, List, []}
use Rattle.vsw_pcap.specs.declared.capture.Record.{Record}
use Rattle.vsw_promise.specs.Jobs.{Setting}
use Rattle.vsw_replay.specs.Switch.{AreServed}
use Rattle.vsw_replay.specs.Going.{Goes}
use Rattle.vsw_replay.proofs.run.run_rounds.Given as goal

abbrev pub invariant-loop-count : goal.invariant-loop-count
invariant-loop-count l = record {
  goes : (s : Setting) (all : List Record) → s.commands ≡ [] → Goes s all 0 l.fn.run l.fn.switch → Goes s all l.first l.run l.switch;
  few : l.first + l.run.workload.2 ≤ 1048576;
  served : AreServed l.switch l.fn.schedule;
}

abbrev pub decreases-loop-count : goal.decreases-loop-count
decreases-loop-count l = l.run.workload.2
