use Rattle.vsw_live.specs.Ports.{AreNewPasses}
use Rattle.vsw_live_tests.proofs.live.crew.enlist_others.Given as goal

abbrev pub invariant-loop-number : goal.invariant-loop-number
invariant-loop-number g l = AreNewPasses l.port.looking 0 l.passes.items
