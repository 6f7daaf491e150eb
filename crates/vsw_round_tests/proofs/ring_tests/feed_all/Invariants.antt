use Rattle.std.proofs.Common.{◌≡◌, false}
use Rattle.vsw_rings.specs.Rings.{SameFeed, has_ended}
use Rattle.vsw_round_tests.proofs.ring_tests.feed_all.Given as goal

abbrev pub invariant-loop-number : goal.invariant-loop-number
invariant-loop-number g l = (has_ended l.feed ≡ false) × SameFeed l.initial.feed l.feed
