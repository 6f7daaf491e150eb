use Rattle.std.proofs.Common.{length}
use Rattle.vsw_walk_tests.proofs.given.+parts_are_good.Given as goal

abbrev pub decreases-parts_are_good : goal.decreases-parts_are_good
decreases-parts_are_good l = length l.parts.now
