use Rattle.std.proofs.Common.{length}
use Rattle.vsw_frame.proofs.numbers.+acts_fit.Given as goal

abbrev pub decreases-acts_fit : goal.decreases-acts_fit
decreases-acts_fit l = length l.acts.now
