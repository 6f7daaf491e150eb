use Rattle.std.proofs.Common.{◌≡◌}
use Rattle.vsw_dock.specs.Private.Met.{MetTo}
use Rattle.vsw_dock.proofs.meeting.meet_row.Given as goal

abbrev pub invariant-loop-place : goal.invariant-loop-place
invariant-loop-place g l = record {
  same : l.helds ≡ l.fn.helds;
  met : MetTo l.more l.place l.fn.helds l.fn.row l.row;
}
