use Rattle.std.proofs.Common.{length}
use Rattle.vsw_actors.proofs.share.+are_few.Given as goal

abbrev pub decreases-are_few : goal.decreases-are_few
decreases-are_few l = length l.shares.now
