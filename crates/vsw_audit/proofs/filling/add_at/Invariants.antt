use Rattle.std.proofs.Common.{◌≡◌, ◌++◌, take}
use Rattle.vsw_audit.specs.Private.Rounds.{tasks_asked}
use Rattle.vsw_audit.proofs.filling.add_at.Given as goal

abbrev pub invariant-loop-place : goal.invariant-loop-place
invariant-loop-place l = l.tasks.items ≡ l.fn.tasks.items ++ tasks_asked l.commands l.controllers l.number l.during (take l.place-index l.places)
