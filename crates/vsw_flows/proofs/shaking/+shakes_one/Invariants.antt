use Rattle.std.proofs.Common.{length}
use Rattle.vsw_flows.proofs.shaking.+shakes_one.Given as goal

abbrev pub decreases-shakes_one : goal.decreases-shakes_one
decreases-shakes_one l = length l.looks.now
