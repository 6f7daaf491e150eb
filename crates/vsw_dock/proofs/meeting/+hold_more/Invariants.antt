use Rattle.std.proofs.Common.{length}
use Rattle.vsw_dock.proofs.meeting.+hold_more.Given as goal

abbrev pub decreases-hold_more : goal.decreases-hold_more
decreases-hold_more g l = length l.docks.now
