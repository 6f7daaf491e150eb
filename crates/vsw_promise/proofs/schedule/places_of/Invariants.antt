use Rattle.std.proofs.Common.{◌≡◌, map, take}
use Rattle.vsw_promise.specs.declared.schedule.Entry.{Entry}
use Rattle.vsw_promise.proofs.schedule.places_of.Given as goal

abbrev pub invariant-loop-entry : goal.invariant-loop-entry
invariant-loop-entry l = l.places.items ≡ map (λ (e : Entry). e.place) (take l.entry-index l.entries)
