use Rattle.std.proofs.Common.{◌≡◌, ◌++◌, ◌||◌, drop, take}
use Rattle.vsw_report.specs.Line.{are_short, texts}
use Rattle.vsw_report.specs.Order.{all_lines, emptied}
use Rattle.vsw_report.specs.Whole.{whole_text}
use Rattle.vsw_report.proofs.merging.move_rest.Given as goal

abbrev pub invariant-loop-place : goal.invariant-loop-place
invariant-loop-place l = record {
  text : whole_text l.out ++ texts (all_lines (drop l.place l.callers)) ≡ whole_text l.fn.out ++ texts (all_lines l.fn.callers);
  short : (l.short || are_short (all_lines (drop l.place l.callers))) ≡ are_short (all_lines l.fn.callers);
  rest : take l.place l.callers ++ emptied (drop l.place l.callers) ≡ emptied l.fn.callers;
}
