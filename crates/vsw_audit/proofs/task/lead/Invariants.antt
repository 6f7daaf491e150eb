use Rattle.std.proofs.Common.{◌≡◌, ◌≤◌, ◌^◌, drop}
use Rattle.vsw_audit.specs.Private.Tasks.{lead_of}
use Rattle.vsw_audit.proofs.task.lead.Given as goal

abbrev pub invariant-loop-place : goal.invariant-loop-place
invariant-loop-place l = record { rest : lead_of l.fn.low l.tasks ≡ lead_of l.next (drop l.place l.tasks); few : l.next ≤ 2 ^ 32 }
