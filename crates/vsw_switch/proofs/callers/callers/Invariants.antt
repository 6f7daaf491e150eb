use Rattle.std.proofs.Common.{◌≡◌, [], replicate}
use Rattle.vsw_switch.proofs.callers.callers.Given as goal

abbrev pub invariant-loop : goal.invariant-loop
invariant-loop l = l.callers.items ≡ replicate l.counter []
