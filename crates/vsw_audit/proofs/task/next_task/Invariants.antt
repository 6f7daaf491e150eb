use Rattle.std.proofs.Common.{◌≡◌, ◌-◌, length, drop, take}
use Rattle.vsw_audit.specs.Private.Tasks.{by}
use Rattle.vsw_audit.proofs.task.next_task.Given as goal

abbrev pub invariant-loop-place : goal.invariant-loop-place
invariant-loop-place l = record { rest : by l.caller (drop l.from l.tasks) ≡ by l.caller (drop l.place l.tasks); front : by l.caller (take l.place l.tasks) ≡ by l.caller (take l.from l.tasks) }

abbrev pub decreases-loop-place : goal.decreases-loop-place
decreases-loop-place l = length l.tasks - l.place
