use Rattle.std.proofs.Common.{length}
use Rattle.vsw_actors.proofs.hop.+receive_at.Given as goal

abbrev pub decreases-receive_at : goal.decreases-receive_at
decreases-receive_at g l = length l.ports.now
