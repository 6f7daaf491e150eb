use Rattle.std.proofs.Common.{◌≡◌, drop}
use Rattle.vsw_audit.specs.Private.Tasks.{are_ordered}
use Rattle.vsw_audit.proofs.task.is_ordered.Given as goal

abbrev pub invariant-loop-place : goal.invariant-loop-place
invariant-loop-place l = are_ordered l.fn.low l.tasks l.high ≡ are_ordered l.least (drop l.place l.tasks) l.high
