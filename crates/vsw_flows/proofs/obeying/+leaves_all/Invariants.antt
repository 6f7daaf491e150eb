use Rattle.std.proofs.Common.{length}
use Rattle.vsw_flows.proofs.obeying.+leaves_all.Given as goal

abbrev pub decreases-leaves_all : goal.decreases-leaves_all
decreases-leaves_all l = length l.looks.now
