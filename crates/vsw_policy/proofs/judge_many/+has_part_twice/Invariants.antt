use Rattle.std.proofs.Common.{length}
use Rattle.vsw_policy.proofs.judge_many.+has_part_twice.Given as goal

abbrev pub decreases-has_part_twice : goal.decreases-has_part_twice
decreases-has_part_twice l = length l.parts.now
