use Rattle.std.proofs.Common.{◌≡◌, ◌≤◌, ◌-◌, ◌++◌, ◌||◌}
use Rattle.vsw_report.specs.Line.{are_short, texts}
use Rattle.vsw_report.specs.Order.{AllInCounts, emptied}
use Rattle.vsw_report.specs.Steps.{merged}
use Rattle.vsw_report.proofs.merging.move_counts.Given as goal

abbrev pub invariant-loop-next : goal.invariant-loop-next
invariant-loop-next l = record {
  counts : l.next ≤ l.after;
  text : l.out.items ++ texts (merged l.workers l.controllers l.next (l.after - l.next)) ≡ l.fn.out.items ++ texts (merged l.fn.workers l.fn.controllers l.before (l.after - l.before));
  short : (l.short || are_short (merged l.workers l.controllers l.next (l.after - l.next))) ≡ are_short (merged l.fn.workers l.fn.controllers l.before (l.after - l.before));
  left : AllInCounts l.before (l.fn.workers ++ l.fn.controllers) l.after → AllInCounts l.next (l.workers ++ l.controllers) l.after;
  workers : emptied l.workers ≡ emptied l.fn.workers;
  controllers : emptied l.controllers ≡ emptied l.fn.controllers;
}

abbrev pub decreases-loop-next : goal.decreases-loop-next
decreases-loop-next l = l.after - l.next
