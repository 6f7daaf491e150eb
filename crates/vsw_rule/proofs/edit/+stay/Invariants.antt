use Rattle.std.proofs.Common.{length}
use Rattle.vsw_rule.proofs.edit.+stay.Given as goal

abbrev pub decreases-stay : goal.decreases-stay
decreases-stay l = length l.headers.now
