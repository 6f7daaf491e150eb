use Rattle.std.proofs.Common.{◌≡◌, ◌++◌, take}
use Rattle.std.specs.List.{flat_map}
use Rattle.vsw_report.specs.Print.{port_text}
use Rattle.vsw_report.proofs.print.port_parts.Given as goal

abbrev pub invariant-loop-port : goal.invariant-loop-port
invariant-loop-port l = l.out.items ≡ l.fn.out.items ++ flat_map port_text (take l.port-index l.ports)
