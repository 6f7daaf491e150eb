use Rattle.std.proofs.Common.{length}
use Rattle.vsw_live_tests.proofs.cores.desk.+are_fresh.Given as goal

abbrev pub decreases-are_fresh : goal.decreases-are_fresh
decreases-are_fresh l = length l.layers.now
