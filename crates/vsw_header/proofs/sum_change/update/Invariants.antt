use Rattle.std.proofs.Common.{◌≡◌, ◌+◌, ◌-◌, drop, sum}
use Rattle.vsw_header.specs.Fold.{fold_of}
use Rattle.vsw_header.specs.Update.{changes}
use Rattle.vsw_header.proofs.sum_change.update.Given as goal

abbrev pub invariant-loop-i : goal.invariant-loop-i
invariant-loop-i l = fold_of (l.sum + sum (changes (drop l.i l.from) (drop l.i l.to))) ≡ fold_of (65535 - l.old + sum (changes l.from l.to))
