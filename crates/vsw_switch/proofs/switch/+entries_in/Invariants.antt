use Rattle.std.proofs.Common.{length}
use Rattle.vsw_switch.proofs.switch.+entries_in.Given as goal

abbrev pub decreases-entries_in : goal.decreases-entries_in
decreases-entries_in l = length l.ports.now
