use Rattle.std.proofs.Common.{length}
use Rattle.vsw_walk.proofs.composing.+compose_all.Given as goal

abbrev pub decreases-compose_all : goal.decreases-compose_all
decreases-compose_all l = length l.actions.now
