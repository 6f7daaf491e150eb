use Rattle.std.proofs.Common.{◌≡◌, ◌+◌, ◌*◌, drop, sum}
use Rattle.vsw_header.specs.Fold.{fold_of}
use Rattle.vsw_header.specs.Sum.{words_of}
use Rattle.vsw_header.proofs.sum.added.Given as goal

abbrev pub invariant-loop-i : goal.invariant-loop-i
invariant-loop-i l = fold_of (l.sum + sum (words_of (drop (8 * l.i) l.bytes))) ≡ fold_of (l.start + sum (words_of l.bytes))
