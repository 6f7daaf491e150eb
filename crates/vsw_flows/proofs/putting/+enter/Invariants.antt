use Rattle.std.proofs.Common.{length}
use Rattle.vsw_flows.proofs.putting.+enter.Given as goal

abbrev pub decreases-enter : goal.decreases-enter
decreases-enter l = length l.looks.now
