use Rattle.std.proofs.Common.{◌≡◌, ◌≤◌, length, drop, option_copied}
use Rattle.vsw_rule.specs.Choice.{pick}
use Rattle.vsw_rule.proofs.choice.least.Given as goal

abbrev pub invariant-loop-left : goal.invariant-loop-left
invariant-loop-left l = record {
  found : option_copied l.found ≡ pick (drop l.left l.rules) l.packet;
  within : l.left ≤ length l.rules;
}

abbrev pub decreases-loop-left : goal.decreases-loop-left
decreases-loop-left l = l.left
