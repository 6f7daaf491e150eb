use Rattle.std.proofs.Common.{rules}
use Rattle.vsw_hands.specs.Private.Briefs.{share_of}
use Rattle.vsw_hands.proofs.Gathered.{next_done}
use Rattle.vsw_hands.proofs.board.Board.gather.Goals as goal

pub loop-place-preserved : goal.loop-place-preserved
loop-place-preserved g c = (
  next_done g.W.Hand.does share_of c.args.briefs.now.items c.loop-place.place c.loop-place.tolds.items c.push.new.all.items c.index-brief.result.now c.in-Some-told_of.told
      (search rules) (search rules) c.loop-place.invariant.0 c.in-Some-told_of.ensures c.in_ok-push.ensures,
  search rules,
)
