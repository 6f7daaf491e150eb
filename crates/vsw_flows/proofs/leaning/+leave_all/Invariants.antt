use Rattle.std.proofs.Common.{length}
use Rattle.vsw_flows.proofs.leaning.+leave_all.Given as goal

abbrev pub decreases-leave_all : goal.decreases-leave_all
decreases-leave_all l = length l.looks.now
