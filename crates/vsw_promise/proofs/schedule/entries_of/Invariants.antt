use Rattle.std.proofs.Common.{◌≡◌, ◌++◌, drop}
use Rattle.vsw_promise.specs.Index.{entries_from}
use Rattle.vsw_promise.proofs.schedule.entries_of.Given as goal

abbrev pub invariant-loop-place : goal.invariant-loop-place
invariant-loop-place l = l.entries.items ++ entries_from l.place (drop l.place l.lines) ≡ entries_from 0 l.lines
