use Rattle.std.proofs.Common.{◌≡◌, ◌++◌}
use Rattle.vsw_actors.specs.Private.Seats.{callers_in}
use Rattle.vsw_actors.proofs.rows.callers_of.Given as goal

abbrev pub invariant-loop-seat : goal.invariant-loop-seat
invariant-loop-seat g l = l.actors.items ++ callers_in l.seat-iterator.rest.items ≡ callers_in l.fn.seats.items
