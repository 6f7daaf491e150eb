use Rattle.std.proofs.Common.{length}
use Rattle.vsw_audit.proofs.round.+same_loose.Given as goal

abbrev pub decreases-same_loose : goal.decreases-same_loose
decreases-same_loose l = length l.a.now
