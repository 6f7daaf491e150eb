use Rattle.std.proofs.Common.{length}
use Rattle.vsw_live_tests.proofs.live.replay.+have_numbers.Given as goal

abbrev pub decreases-have_numbers : goal.decreases-have_numbers
decreases-have_numbers l = length l.layers.now
