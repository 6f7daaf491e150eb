use Rattle.std.proofs.Common.{length}
use Rattle.vsw_crew.proofs.stream_shift.+end_all.Given as goal

abbrev pub decreases-end_all : goal.decreases-end_all
decreases-end_all l = length l.feeds.now
