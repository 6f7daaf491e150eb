use Rattle.vsw_words.proofs.Passes.{zero_more}
use Rattle.vsw_words.proofs.reading.are_zero.Goals as goal

pub loop-word-preserved : goal.loop-word-preserved
loop-word-preserved c = zero_more c.loop-word.all c.loop-word.word-index c.args.words.now _ c.loop-word-test.true c.loop-word.invariant
