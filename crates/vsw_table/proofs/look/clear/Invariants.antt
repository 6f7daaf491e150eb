use Rattle.std.proofs.Common.{◌≡◌, length, take, replicate}
use Rattle.vsw_table.proofs.look.clear.Given as goal

abbrev pub invariant-loop-i : goal.invariant-loop-i
invariant-loop-i l = (length l.words ≡ length l.initial.words) × (take l.i l.words ≡ replicate l.i 0)
