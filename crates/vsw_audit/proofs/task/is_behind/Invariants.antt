use Rattle.std.proofs.Common.{◌≡◌, drop}
use Rattle.vsw_audit.specs.Private.Tasks.{are_behind}
use Rattle.vsw_audit.proofs.task.is_behind.Given as goal

abbrev pub invariant-loop-place : goal.invariant-loop-place
invariant-loop-place l = are_behind l.least l.tasks ≡ are_behind l.least (drop l.place l.tasks)
