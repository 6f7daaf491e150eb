use Rattle.std.proofs.Common.{◌≡◌}
use Rattle.rtrb.specs.Ring.{received, SameConsumer}
use Rattle.vsw_rings.proofs.drain.Drain.next.Given as goal

abbrev pub invariant-loop : goal.invariant-loop
invariant-loop g l = (received l.self.ring ≡ received l.initial.self.ring) × SameConsumer l.initial.self.ring l.self.ring
