use Rattle.vsw_header.proofs.Folds.{added_at}
use Rattle.vsw_header.proofs.sum.added.Goals as goal

pub loop-i-preserved : goal.loop-i-preserved
loop-i-preserved c = added_at c.args.bytes.now _ _ _ c.loop-i.i _ c.plus-sum.ensures c.front.ensures c.loop-i.invariant
