use Rattle.std.proofs.Common.{◌≡◌, ◌++◌, take}
use Rattle.std.specs.List.{flat_map}
use Rattle.vsw_report.specs.Print.{loose_text}
use Rattle.vsw_report.proofs.print.loose_lines.Given as goal

abbrev pub invariant-loop-packet : goal.invariant-loop-packet
invariant-loop-packet l = l.out.items ≡ l.fn.out.items ++ flat_map loose_text (take l.packet-index l.packets)
