use Rattle.std.proofs.Common.{◌≡◌, ◌++◌}
use Rattle.vsw_actors.specs.Private.Seats.{seats_of}
use Rattle.vsw_actors.proofs.rows.seat_all.Given as goal

abbrev pub invariant-loop-actor : goal.invariant-loop-actor
invariant-loop-actor g l = l.seats.items ++ seats_of l.actor-iterator.rest.items l.fn.reconciler ≡ seats_of l.fn.actors.items l.fn.reconciler
