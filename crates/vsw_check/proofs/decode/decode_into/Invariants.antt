use Rattle.std.proofs.Common.{◌≡◌, ◌≤◌, ◌*◌, length, drop, Some}
use Rattle.vsw_check.specs.Private.Decode.{decoded}
use Rattle.vsw_check.proofs.decode.decode_into.Given as goal

abbrev pub invariant-loop-at : goal.invariant-loop-at
invariant-loop-at l = (l.at ≤ length l.out) × (length l.text ≡ 2 * length l.out) × (decoded (drop (2 * l.at) l.text) ≡ Some (drop l.at l.out))

abbrev pub decreases-loop-at : goal.decreases-loop-at
decreases-loop-at l = l.at
