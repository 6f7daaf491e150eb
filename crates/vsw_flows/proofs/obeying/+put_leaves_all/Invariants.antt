use Rattle.std.proofs.Common.{length}
use Rattle.vsw_flows.proofs.obeying.+put_leaves_all.Given as goal

abbrev pub decreases-put_leaves_all : goal.decreases-put_leaves_all
decreases-put_leaves_all l = length l.looks.now
