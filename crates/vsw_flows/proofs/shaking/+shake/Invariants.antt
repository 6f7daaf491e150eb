use Rattle.std.proofs.Common.{length}
use Rattle.vsw_flows.proofs.shaking.+shake.Given as goal

abbrev pub decreases-shake : goal.decreases-shake
decreases-shake l = length l.changes.now
