use Rattle.std.proofs.Common.{◌≡◌, ◌++◌, ◌||◌, drop, map, take}
use Rattle.std.specs.List.{flat_map}
use Rattle.vsw_report.specs.Line.{are_short, texts}
use Rattle.vsw_report.specs.Steps.{first_entry, past_entry}
use Rattle.vsw_report.proofs.merging.move_entry.Given as goal

abbrev pub invariant-loop-place : goal.invariant-loop-place
invariant-loop-place l = record {
  text : l.out.items ++ texts (flat_map (first_entry l.count) (drop l.place l.callers)) ≡ l.fn.out.items ++ texts (flat_map (first_entry l.count) l.fn.callers);
  short : (l.short || are_short (flat_map (first_entry l.count) (drop l.place l.callers))) ≡ are_short (flat_map (first_entry l.count) l.fn.callers);
  rest : take l.place l.callers ++ map (past_entry l.count) (drop l.place l.callers) ≡ map (past_entry l.count) l.fn.callers;
}
