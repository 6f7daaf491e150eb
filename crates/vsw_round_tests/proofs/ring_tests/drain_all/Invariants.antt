use Rattle.std.proofs.Common.{◌≡◌, false}
use Rattle.vsw_rings.specs.Rings.{SameDrain, is_at_end}
use Rattle.vsw_round_tests.proofs.ring_tests.drain_all.Given as goal

abbrev pub invariant-loop : goal.invariant-loop
invariant-loop g l = (is_at_end l.drain ≡ false) × SameDrain l.initial.drain l.drain
