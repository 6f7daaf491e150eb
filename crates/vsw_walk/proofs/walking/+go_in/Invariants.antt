use Rattle.std.proofs.Common.{length}
use Rattle.vsw_walk.proofs.walking.+go_in.Given as goal

abbrev pub decreases-go_in : goal.decreases-go_in
decreases-go_in l = length l.layers.now
