use Rattle.std.proofs.Common.{◌≡◌, List, length, take}
use Rattle.vsw_policy.specs.Sound.{Each}
use Rattle.vsw_port.specs.Calls.{Job}
use Rattle.vsw_audit.specs.Private.Runs.{Comes}
use Rattle.vsw_audit.specs.Private.Tasks.{AreTasks, CanBeAsked, HasJobs, IsKnown, site_at}
use Rattle.vsw_audit.proofs.port.replay_lines.Given as goal

abbrev pub invariant-loop-place : goal.invariant-loop-place
invariant-loop-place l = record {
  opening : l.ledger.opening ≡ l.fn.ledger.opening;
  same : l.files.controllers.now ≡ l.ledger.opening.controllers;
  can_ask : Each (CanBeAsked l.ledger.opening.controllers) l.files.commands.now;
  known : HasJobs (site_at l.files.commands.now l.files.records.now l.port l.ledger.opening) l.tasks.items;
  long : length l.cursors.items ≡ 24;
  comes : (js : List Job) → AreTasks (site_at l.files.commands.now l.files.records.now l.port l.fn.ledger.opening) l.fn.tasks.items js → Each (IsKnown l.fn.ledger.opening.controllers) js
      → Comes (site_at l.files.commands.now l.files.records.now l.port l.fn.ledger.opening) js l.fn.ledger.journal (take l.place l.lines) l.ledger.journal l.tasks.items l.cursors.items;
}
