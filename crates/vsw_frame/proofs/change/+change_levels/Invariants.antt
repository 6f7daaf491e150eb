use Rattle.std.proofs.Common.{length}
use Rattle.vsw_frame.specs.Levels.{levels_of}
use Rattle.vsw_frame.proofs.change.+change_levels.Given as goal

abbrev pub decreases-change_levels : goal.decreases-change_levels
decreases-change_levels l = length (levels_of l.levels.now)
