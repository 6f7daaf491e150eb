use Rattle.std.proofs.Common.{◌≡◌}
use Rattle.rtrb.specs.Ring.{sent, SameProducer}
use Rattle.vsw_rings.proofs.feed.Feed.wait_for_room.Given as goal

abbrev pub invariant-loop : goal.invariant-loop
invariant-loop g l = (sent l.self.ring ≡ sent l.initial.self.ring) × SameProducer l.initial.self.ring l.self.ring
