use Rattle.std.proofs.Common.{◌≡◌, ◌++◌, ◌+◌, drop}
use Rattle.vsw_audit.specs.Private.Rounds.{tasks_aimed}
use Rattle.vsw_audit.proofs.filling.add_packets.Given as goal

abbrev pub invariant-loop-place : goal.invariant-loop-place
invariant-loop-place l = l.fn.tasks.items ++ tasks_aimed l.first l.port l.aims ≡ l.tasks.items ++ tasks_aimed (l.first + l.place) l.port (drop l.place l.aims)
