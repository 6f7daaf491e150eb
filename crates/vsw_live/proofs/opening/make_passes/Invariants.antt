use Rattle.vsw_live.specs.Private.Opening.{HasPasses}
use Rattle.vsw_live.proofs.opening.make_passes.Given as goal

abbrev pub invariant-loop-number : goal.invariant-loop-number
invariant-loop-number l = HasPasses l.lookup l.number l.writer l.passes.items
