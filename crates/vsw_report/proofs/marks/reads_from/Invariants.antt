use Rattle.std.proofs.Common.{◌≡◌, ◌≤◌, ◌+◌, ◌-◌, ◌||◌, drop, length}
use Rattle.vsw_report.specs.Marks.{reads_end, reads_len, reads_short}
use Rattle.vsw_report.proofs.marks.reads_from.Given as goal

abbrev pub invariant-loop-at : goal.invariant-loop-at
invariant-loop-at l = record {
  within : l.at ≤ length l.marks;
  passed : l.at + reads_len l.count (drop l.at l.marks) ≡ l.passed + reads_len l.count (drop l.passed l.marks);
  end : reads_end l.count l.end (drop l.at l.marks) ≡ reads_end l.count l.from (drop l.passed l.marks);
  short : (l.short || reads_short l.count (drop l.at l.marks)) ≡ reads_short l.count (drop l.passed l.marks);
}

abbrev pub decreases-loop-at : goal.decreases-loop-at
decreases-loop-at l = length l.marks - l.at
