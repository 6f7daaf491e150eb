use Rattle.std.proofs.Common.{length}
use Rattle.vsw_spares.proofs.between.+before_rest.Given as goal

-- proposed from what the function passes where it calls itself
abbrev pub decreases-before_rest : goal.decreases-before_rest
decreases-before_rest l = length l.old.now
