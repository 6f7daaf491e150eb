use Rattle.std.proofs.Common.{length}
use Rattle.vsw_audit.proofs.line.+is_listed.Given as goal

abbrev pub decreases-is_listed : goal.decreases-is_listed
decreases-is_listed l = length l.numbers.now
