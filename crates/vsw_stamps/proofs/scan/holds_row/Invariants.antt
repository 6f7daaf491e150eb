use Rattle.std.proofs.Common.{◌≡◌, ◌≤◌, length, reverse, take}
use Rattle.vsw_stamps.specs.Machine.{has_row, record_of}
use Rattle.vsw_stamps.proofs.scan.holds_row.Given as goal

abbrev pub invariant-loop-left : goal.invariant-loop-left
invariant-loop-left l = (l.left ≤ length l.log) × (has_row l.row (record_of l.actor (reverse l.log)).rows ≡ has_row l.row (record_of l.actor (reverse (take l.left l.log))).rows)

abbrev pub decreases-loop-left : goal.decreases-loop-left
decreases-loop-left l = l.left
