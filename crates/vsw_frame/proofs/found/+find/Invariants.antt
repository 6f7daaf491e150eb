use Rattle.std.proofs.Common.{◌*◌, ◌+◌}
use Rattle.vsw_frame.proofs.found.+find.Given as goal

abbrev pub decreases-find : goal.decreases-find
decreases-find l = 2 * l.depth

abbrev pub decreases-find_inner : goal.decreases-find_inner
decreases-find_inner l = 2 * l.depth + 1
