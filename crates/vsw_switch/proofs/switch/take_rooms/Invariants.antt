use Rattle.std.proofs.Common.{◌≡◌}
use Rattle.vsw_report.specs.Whole.{whole_text}
use Rattle.vsw_switch.proofs.switch.take_rooms.Given as goal

abbrev pub invariant-loop-place : goal.invariant-loop-place
invariant-loop-place l = record {
  same : l.ports.items ≡ l.fn.ports.items;
  text : whole_text l.out ≡ whole_text l.fn.out;
}
