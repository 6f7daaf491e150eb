use Rattle.std.proofs.Common.{◌≡◌, ◌<◌, ℕ, [], drop, get_or}
use Rattle.vsw_audit.specs.Private.Tasks.{by}
use Rattle.vsw_audit.proofs.port.are_done.Given as goal

abbrev pub invariant-loop-caller : goal.invariant-loop-caller
invariant-loop-caller l = (k : ℕ) → k < l.caller → by k (drop (get_or l.cursors k 0) l.tasks) ≡ []
