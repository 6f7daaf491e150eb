use Rattle.std.proofs.Common.{length}
use Rattle.vsw_words.proofs.row.+write_acts.Given as goal

abbrev pub decreases-write_acts : goal.decreases-write_acts
decreases-write_acts l = length l.acts.now
