use Rattle.std.proofs.Common.{length}
use Rattle.vsw_crew.proofs.stream_shift.+give_streams.Given as goal

abbrev pub decreases-give_streams : goal.decreases-give_streams
decreases-give_streams g l = length l.rows.now
