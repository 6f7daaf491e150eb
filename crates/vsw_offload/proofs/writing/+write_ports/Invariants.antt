use Rattle.std.proofs.Common.{length}
use Rattle.vsw_offload.proofs.writing.+write_ports.Given as goal

abbrev pub decreases-write_ports : goal.decreases-write_ports
decreases-write_ports l = length l.ports.now
