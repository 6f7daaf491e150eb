use Rattle.std.proofs.Common.{arith, ap, ◌∙◌}
use Rattle.vsw_stamps.specs.Machine.{has_row}
use Rattle.vsw_stamps.specs.declared.shown.Record.{Record}
use Rattle.vsw_stamps.proofs.Holds.{skip_again, skip_count, skip_word}
use Rattle.vsw_stamps.proofs.scan.holds_row.Goals as goal

pub loop-left-preserved-in-Word : goal.loop-left-preserved-in-Word
loop-left-preserved-in-Word c = (omega (arith, c.loop-left.invariant.0), c.loop-left.invariant.1 ∙ skip_word c.args.row c.args.actor c.in-Word.row c.in-Word.word c.in-Word.value c.loop-left.left c.args.log.now _ c.loop-left-test.true c.loop-left.invariant.0 c.if-loaded-actor.true c.in-Word.is)

pub loop-left-preserved-in-Count : goal.loop-left-preserved-in-Count
loop-left-preserved-in-Count c = (omega (arith, c.loop-left.invariant.0), c.loop-left.invariant.1 ∙ skip_count c.args.row c.args.actor c.in-Count.count c.loop-left.left c.args.log.now _ c.loop-left-test.true c.loop-left.invariant.0 c.if-loaded-actor.true c.in-Count.is)

pub loop-left-preserved-in-Again : goal.loop-left-preserved-in-Again
loop-left-preserved-in-Again c = (omega (arith, c.loop-left.invariant.0), c.loop-left.invariant.1 ∙ ap (λ (x : Record). has_row c.args.row x.rows) (skip_again c.args.row c.args.actor c.in-Again.row c.in-Again.stamp c.loop-left.left c.args.log.now _ c.loop-left-test.true c.loop-left.invariant.0 c.if-loaded-actor.true c.in-Again.is))
