use Rattle.std.proofs.Common.{◌≡◌, ◌≤◌, length, reverse, take}
use Rattle.vsw_stamps.specs.Machine.{is_closed, record_of}
use Rattle.vsw_stamps.proofs.scan.has_closed.Given as goal

abbrev pub invariant-loop-left : goal.invariant-loop-left
invariant-loop-left l = (l.left ≤ length l.log) × (is_closed (record_of l.actor (reverse l.log)) ≡ is_closed (record_of l.actor (reverse (take l.left l.log))))

abbrev pub decreases-loop-left : goal.decreases-loop-left
decreases-loop-left l = l.left
