use Rattle.std.proofs.Common.{◌≡◌, drop}
use Rattle.vsw_policy.specs.Refusals.{refusal_number}
use Rattle.vsw_report.specs.Words.{numbered}
use Rattle.vsw_check.proofs.name.numbered_refusal.Given as goal

abbrev pub invariant-loop-why : goal.invariant-loop-why
invariant-loop-why l = numbered refusal_number (drop l.why-index l.all) l.number ≡ numbered refusal_number l.all l.number
