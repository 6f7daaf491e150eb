use Rattle.std.proofs.Common.{length}
use Rattle.vsw_audit.proofs.carry.+has_make.Given as goal

abbrev pub decreases-has_make : goal.decreases-has_make
decreases-has_make l = length l.changes.now
