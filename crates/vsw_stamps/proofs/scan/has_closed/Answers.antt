use Rattle.std.proofs.Common.{arith, ap, ◌∙◌}
use Rattle.vsw_stamps.specs.Machine.{is_closed}
use Rattle.vsw_stamps.proofs.Holds.{skip_again, skip_closed}
use Rattle.vsw_stamps.proofs.scan.has_closed.Goals as goal

pub loop-left-preserved-in-Word : goal.loop-left-preserved-in-Word
loop-left-preserved-in-Word c = (omega (arith, c.loop-left.invariant.0), c.loop-left.invariant.1 ∙ skip_closed c.args.actor c.in-Word.row c.in-Word.word c.in-Word.value c.loop-left.left c.args.log.now _ c.loop-left-test.true c.loop-left.invariant.0 c.if-loaded-actor.true c.in-Word.is)

pub loop-left-preserved-in-Again : goal.loop-left-preserved-in-Again
loop-left-preserved-in-Again c = (omega (arith, c.loop-left.invariant.0), c.loop-left.invariant.1 ∙ ap is_closed (skip_again 0 c.args.actor c.in-Again.row c.in-Again.stamp c.loop-left.left c.args.log.now _ c.loop-left-test.true c.loop-left.invariant.0 c.if-loaded-actor.true c.in-Again.is))
