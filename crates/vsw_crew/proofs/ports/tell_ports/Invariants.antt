use Rattle.std.proofs.Common.{◌≡◌, ◌++◌, length, map}
use Rattle.std.specs.List.{flat_map, list_any}
use Rattle.vsw_port.specs.Order.{counted}
use Rattle.vsw_report.specs.Whole.{whole_text}
use Rattle.vsw_crew.specs.Private.Port.{lines_at, quiet}
use Rattle.vsw_crew.specs.Private.Ports.{AreCountedAt, gone_to, short_at, told_at}
use Rattle.vsw_crew.proofs.ports.tell_ports.Given as goal

abbrev pub invariant-loop-place : goal.invariant-loop-place
invariant-loop-place l = record {
  quiet : l.gathered.team.items ≡ quiet l.workers;
  lines : l.lines ≡ map (gone_to l.place) l.fn.lines;
  firsts : l.firsts ≡ map (gone_to l.place) l.fn.firsts;
  text : AreCountedAt (length l.numbers) l.befores l.afters (lines_at l.workers l.places l.fn.lines l.fn.firsts) → whole_text l.out ≡ whole_text l.fn.out ++ flat_map (told_at l.numbers l.befores l.afters (lines_at l.workers l.places l.fn.lines l.fn.firsts)) (counted 0 l.place);
  short : AreCountedAt (length l.numbers) l.befores l.afters (lines_at l.workers l.places l.fn.lines l.fn.firsts) → l.short ≡ list_any (short_at l.befores l.afters (lines_at l.workers l.places l.fn.lines l.fn.firsts)) (counted 0 l.place);
}
