use Rattle.std.proofs.Common.{◌≡◌, take}
use Rattle.vsw_classify.proofs.copies.copy_conditions.Given as goal

abbrev pub invariant-loop-condition : goal.invariant-loop-condition
invariant-loop-condition l = l.copies ≡ take l.condition-index l.conditions
