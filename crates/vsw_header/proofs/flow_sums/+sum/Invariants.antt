use Rattle.std.proofs.Common.{length}
use Rattle.vsw_header.proofs.flow_sums.+sum.Given as goal

abbrev pub decreases-sum : goal.decreases-sum
decreases-sum l = length l.headers.now
