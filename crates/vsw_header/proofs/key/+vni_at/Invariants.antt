use Rattle.std.proofs.Common.{length}
use Rattle.vsw_header.proofs.key.+vni_at.Given as goal

abbrev pub decreases-vni_at : goal.decreases-vni_at
decreases-vni_at l = length l.headers.now
