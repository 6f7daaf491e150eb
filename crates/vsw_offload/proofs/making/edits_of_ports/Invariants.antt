use Rattle.std.proofs.Common.{◌≡◌, length, take}
use Rattle.vsw_offload.specs.Private.Heading.{AllMade}
use Rattle.vsw_offload.proofs.making.edits_of_ports.Given as goal

abbrev pub invariant-loop-port : goal.invariant-loop-port
invariant-loop-port l = record {
  made : AllMade (take l.port-index l.ports) l.edits;
  long : length l.edits ≡ l.port-index;
}
