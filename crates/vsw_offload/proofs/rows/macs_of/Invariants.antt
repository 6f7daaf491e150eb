use Rattle.std.proofs.Common.{◌≡◌, take}
use Rattle.vsw_offload.specs.Rows.{macs_of}
use Rattle.vsw_offload.proofs.rows.macs_of.Given as goal

abbrev pub invariant-loop-port : goal.invariant-loop-port
invariant-loop-port l = l.macs ≡ macs_of (take l.port-index l.ports)
