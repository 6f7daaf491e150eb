use Rattle.std.proofs.Common.{length}
use Rattle.vsw_report.proofs.merging.+clear.Given as goal

abbrev pub decreases-clear : goal.decreases-clear
decreases-clear l = length l.callers.now
