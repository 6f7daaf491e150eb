use Rattle.std.proofs.Common.{length}
use Rattle.vsw_frame.proofs.push.+write_encaps.Given as goal

abbrev pub decreases-write_encaps : goal.decreases-write_encaps
decreases-write_encaps l = length l.headers.now
