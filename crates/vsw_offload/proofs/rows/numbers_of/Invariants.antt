use Rattle.std.proofs.Common.{◌≡◌, take}
use Rattle.vsw_offload.specs.Rows.{numbers_of}
use Rattle.vsw_offload.proofs.rows.numbers_of.Given as goal

abbrev pub invariant-loop-port : goal.invariant-loop-port
invariant-loop-port l = l.numbers ≡ numbers_of (take l.port-index l.ports)
