use Rattle.std.proofs.Common.{◌≡◌, ◌≤◌, length}
use Rattle.vsw_offload.specs.Bad.{Begins, ports_text}
use Rattle.vsw_offload.specs.Rows.{AreRows}
use Rattle.vsw_offload.proofs.reading.read_ports.Given as goal

abbrev pub invariant-loop-port : goal.invariant-loop-port
invariant-loop-port l = record {
  within : l.at ≤ length l.bytes;
  many : length l.ports ≡ l.port;
  begins : Begins l.bytes l.at (ports_text l.count l.ports);
  are : AreRows l.ports;
}
