use Rattle.std.proofs.Common.{length}
use Rattle.vsw_crew.proofs.shift.+add_needs.Given as goal

abbrev pub decreases-add_needs : goal.decreases-add_needs
decreases-add_needs l = length l.picks.now
