use Rattle.std.proofs.Common.{◌≡◌, ◌≤◌, ℕ, false, length, drop, get_or}
use Rattle.std.specs.List.{list_any}
use Rattle.vsw_policy.specs.Staying.{is_gone, number_goes}
use Rattle.vsw_policy.proofs.gone.mark_gone.Given as goal

abbrev pub invariant-loop-left : goal.invariant-loop-left
invariant-loop-left l = record {
  marks : (n : ℕ) → get_or l.marks n false ≡ number_goes (drop l.left l.old) l.new n;
  size : length l.marks ≡ 65536;
  any : l.any ≡ list_any (is_gone l.new) (drop l.left l.old);
  within : l.left ≤ length l.old;
}

abbrev pub decreases-loop-left : goal.decreases-loop-left
decreases-loop-left l = l.left
