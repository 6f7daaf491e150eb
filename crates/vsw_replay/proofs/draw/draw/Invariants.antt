use Rattle.std.proofs.Common.{◌≡◌, ◌≤◌, ◌+◌, ◌-◌, ◌++◌, length}
use Rattle.vsw_replay.specs.Draws.{records_left}
use Rattle.vsw_replay.proofs.draw.draw.Given as goal

abbrev pub invariant-loop-workload : goal.invariant-loop-workload
invariant-loop-workload l = record {
  so_far : l.batch ++ records_left l.workload ≡ records_left l.fn.workload;
  count : length l.batch + l.workload.2 ≡ l.fn.workload.2;
  most : length l.batch ≤ 1024;
}

abbrev pub decreases-loop-workload : goal.decreases-loop-workload
decreases-loop-workload l = 1024 - length l.batch
