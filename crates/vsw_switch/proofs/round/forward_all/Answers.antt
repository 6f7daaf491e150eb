use Rattle.vsw_switch.proofs.Asking.{forwards_next}
use Rattle.vsw_switch.proofs.round.forward_all.Goals as goal

pub loop-place-preserved : goal.loop-place-preserved
loop-place-preserved g c = record {
  so_far = forwards_next c.args.switch.now c.loop-place.switch c.forward.new.self c.args.first c.loop-place.place c.args.packets.now _ c.at-captured.ensures c.loop-place.invariant.so_far c.in_ok-forward.ensures.forwards;
  served = λ lines h. c.forward.ensures.served lines (c.loop-place.invariant.served lines h);
}
