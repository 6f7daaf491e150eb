use Rattle.std.proofs.Common.{◌≡◌, List, ◌++◌}
use Rattle.vsw_promise.specs.declared.port.Port.{Port}
use Rattle.vsw_audit.specs.Private.Rounds.{AreFirst}
use Rattle.vsw_audit.proofs.check.seats_of.Given as goal

abbrev pub invariant-loop-port : goal.invariant-loop-port
invariant-loop-port l = (done : List Port) × (l.fn.made ≡ done ++ l.port-iterator.rest.items) × AreFirst done l.seats.items
