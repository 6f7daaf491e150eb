use Rattle.std.proofs.Common.{length}
use Rattle.vsw_crew.proofs.stream_shift.+agree_all.Given as goal

abbrev pub decreases-agree_all : goal.decreases-agree_all
decreases-agree_all l = length l.tolds.now
