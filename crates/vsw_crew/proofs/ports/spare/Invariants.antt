use Rattle.std.proofs.Common.{◌≡◌, ◌≤◌, ◌-◌}
use Rattle.vsw_crew.specs.Private.Port.{quiet}
use Rattle.vsw_crew.proofs.ports.spare.Given as goal

abbrev pub invariant-loop-made : goal.invariant-loop-made
invariant-loop-made l = record {
  within : l.made ≤ l.workers;
  quiet : l.team.items ≡ quiet l.made;
}

abbrev pub decreases-loop-made : goal.decreases-loop-made
decreases-loop-made l = l.workers - l.made
