use Rattle.std.proofs.Common.{◌≡◌, ◌≤◌, ◌<◌, ℕ, false, length, drop, get_or}
use Rattle.std.specs.List.{list_any}
use Rattle.vsw_classify.specs.Groups.{is_rule, has_twice}
use Rattle.vsw_classify.proofs.places.has_twice.Given as goal

abbrev pub invariant-loop-left : goal.invariant-loop-left
invariant-loop-left l = record {
  marks : (n : ℕ) → n < 65536 → get_or l.marks.items n false ≡ list_any (is_rule n) (drop l.left l.rules);
  size : length l.marks.items ≡ 65536;
  twice : l.twice ≡ has_twice (drop l.left l.rules);
  within : l.left ≤ length l.rules;
}

abbrev pub decreases-loop-left : goal.decreases-loop-left
decreases-loop-left l = l.left
