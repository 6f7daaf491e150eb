use Rattle.std.proofs.Common.{◌≡◌, ◌++◌, ◌||◌, drop, map, take}
use Rattle.std.specs.List.{flat_map}
use Rattle.vsw_report.specs.Line.{are_short, texts}
use Rattle.vsw_report.specs.Steps.{first_reads, past_reads}
use Rattle.vsw_report.proofs.merging.move_reads.Given as goal

abbrev pub invariant-loop-place : goal.invariant-loop-place
invariant-loop-place l = record {
  text : l.out.items ++ texts (flat_map (first_reads l.count) (drop l.place l.callers)) ≡ l.fn.out.items ++ texts (flat_map (first_reads l.count) l.fn.callers);
  short : (l.short || are_short (flat_map (first_reads l.count) (drop l.place l.callers))) ≡ are_short (flat_map (first_reads l.count) l.fn.callers);
  rest : take l.place l.callers ++ map (past_reads l.count) (drop l.place l.callers) ≡ map (past_reads l.count) l.fn.callers;
}
