use Rattle.std.proofs.Common.{◌≡◌, ◌≤◌, length, drop, option_copied, option_map}
use Rattle.vsw_rule.specs.Private.FromEnd.{from_end}
use Rattle.vsw_rule.specs.declared.rule.Rule.{Rule}
use Rattle.vsw_classify.proofs.layer.choose_among.Given as goal

abbrev pub invariant-loop-left : goal.invariant-loop-left
invariant-loop-left l = record {
  found : option_map (λ (r : Rule). record { group = l.number; rule = r }) (option_copied l.found) ≡ from_end l.dir (drop l.left l.groups) l.fn.stack;
  within : l.left ≤ length l.groups;
}

abbrev pub decreases-loop-left : goal.decreases-loop-left
decreases-loop-left l = l.left
