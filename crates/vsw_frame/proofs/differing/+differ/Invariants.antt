use Rattle.std.proofs.Common.{length}
use Rattle.vsw_frame.proofs.differing.+differ.Given as goal

abbrev pub decreases-differ : goal.decreases-differ
decreases-differ l = length l.from.now
