use Rattle.std.proofs.Common.{◌<◌, length, refl, arith}
use Rattle.vsw_workers.proofs.Some.{one_more}
use Rattle.vsw_workers.proofs.round.do_some.Goals.{else-left-most, then-left-most}
use Rattle.vsw_workers.proofs.round.do_some.Goals as goal

pub loop-place-preserved : goal.loop-place-preserved
loop-place-preserved g c =
    let lt : c.loop-place.place < length (g.F.Forwarder.todo c.args.actor.now) = elim c.if-left-most.branch [
      | then-left-most w ↦ omega (arith, c.loop-place-test.true, w.count-is, c.left-left.ensures)
      | else-left-most w ↦ omega (arith, c.loop-place-test.true, w.count-is, w.if-left-most.false, c.left-left.ensures)
    ] in
    one_more g.F.Forwarder.what g.F.Forwarder.done g.F.Forwarder.todo c.loop-place.place _ c.args.actor.now c.loop-place.actor c.job.new.self c.job.result lt refl c.loop-place.invariant c.job.ensures
