use Rattle.std.proofs.Common.{length}
use Rattle.vsw_spares.proofs.between.+differing.Given as goal

-- proposed from what the function passes where it calls itself
abbrev pub decreases-differing : goal.decreases-differing
decreases-differing l = length l.old.now
