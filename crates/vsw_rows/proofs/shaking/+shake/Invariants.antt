use Rattle.std.proofs.Common.{length}
use Rattle.vsw_rows.proofs.shaking.+shake.Given as goal

abbrev pub decreases-shake : goal.decreases-shake
decreases-shake l = length l.changes.now
