use Rattle.std.proofs.Common.{length}
use Rattle.vsw_audit.proofs.port.+replay_ports.Given as goal

abbrev pub decreases-replay_ports : goal.decreases-replay_ports
decreases-replay_ports l = length l.seats.now
