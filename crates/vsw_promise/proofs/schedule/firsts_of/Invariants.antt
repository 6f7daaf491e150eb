use Rattle.std.proofs.Common.{◌≡◌, map, take}
use Rattle.vsw_promise.specs.declared.schedule.Entry.{Entry}
use Rattle.vsw_promise.proofs.schedule.firsts_of.Given as goal

abbrev pub invariant-loop-entry : goal.invariant-loop-entry
invariant-loop-entry l = l.firsts.items ≡ map (λ (e : Entry). e.at) (take l.entry-index l.entries)
