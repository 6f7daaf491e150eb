use Rattle.std.proofs.Common.{arith}
use Rattle.vsw_words.specs.Slot.{factors}
use Rattle.vsw_words.proofs.Products.{word_added, all_added}
use Rattle.vsw_words.proofs.slots.total.Goals as goal

pub loop-place-preserved : goal.loop-place-preserved
loop-place-preserved c = (
  word_added factors c.args.key.now c.loop-place.place c.loop-place.total c.added-total.result _ c.loop-place-test.true (omega (arith, c.loop-place-test.true, c.told-key)) c.added-total.ensures c.loop-place.invariant.0,
  omega (arith, c.added-total.ensures),
)

pub returns : goal.returns
returns c = all_added c.args.key.now c.loop-place.place c.loop-place.total _ c.loop-place-test.false c.loop-place.auto.place-end c.loop-place.invariant.1 c.loop-place.invariant.0
