use Rattle.std.proofs.Common.{length}
use Rattle.vsw_promise.proofs.port.+add_ports.Given as goal

abbrev pub decreases-add_ports : goal.decreases-add_ports
decreases-add_ports l = length l.files.now
