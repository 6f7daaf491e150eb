use Rattle.std.proofs.Common.{◌≡◌, ◌++◌, take}
use Rattle.vsw_classify.proofs.copies.push_copies.Given as goal

abbrev pub invariant-loop-rule : goal.invariant-loop-rule
invariant-loop-rule l = l.copies ≡ l.fn.copies ++ take l.rule-index l.rules
