use Rattle.std.proofs.Common.{length}
use Rattle.vsw_port.proofs.changing.+change_all.Given as goal

abbrev pub decreases-change_all : goal.decreases-change_all
decreases-change_all l = length l.changes.now
