use Rattle.std.proofs.Common.{◌≡◌, take}
use Rattle.std.specs.List.{list_any}
use Rattle.vsw_policy.specs.Obey.{repeats_rule}
use Rattle.vsw_policy.proofs.judge_many.any_repeats_rule.Given as goal

abbrev pub invariant-loop-part : goal.invariant-loop-part
invariant-loop-part l = l.repeats ≡ list_any repeats_rule (take l.part-index l.parts)
