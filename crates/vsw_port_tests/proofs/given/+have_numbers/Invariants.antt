use Rattle.std.proofs.Common.{length}
use Rattle.vsw_port_tests.proofs.given.+have_numbers.Given as goal

abbrev pub decreases-have_numbers : goal.decreases-have_numbers
decreases-have_numbers l = length l.layers.now
