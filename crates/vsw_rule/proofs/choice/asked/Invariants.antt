use Rattle.std.proofs.Common.{◌≡◌, ◌≤◌, List, None, length, drop}
use Rattle.vsw_base.specs.declared.header.Header.{Header}
use Rattle.vsw_rule.specs.Private.FromEnd.{from_end}
use Rattle.vsw_rule.proofs.choice.asked.Given as goal

abbrev pub invariant-loop-left : goal.invariant-loop-left
invariant-loop-left l = record {
  rest : (hs : List Header) → from_end l.dir (drop l.left l.groups) hs ≡ None;
  within : l.left ≤ length l.groups;
}

abbrev pub decreases-loop-left : goal.decreases-loop-left
decreases-loop-left l = l.left
