use Rattle.std.proofs.Common.{◌∙◌}
use Rattle.vsw_switch.proofs.Places.{set_here}
use Rattle.vsw_switch.proofs.switch.take_rooms.Goals as goal

pub loop-place-preserved : goal.loop-place-preserved
loop-place-preserved c = record {
  same = set_here c.loop-place.ports.items c.loop-place.place c.index_mut-port.result.now c.take_room.new.self c.index_mut-port.ensures.value c.take_room.ensures.same ∙ c.loop-place.invariant.same;
  text = c.take_room.ensures.text ∙ c.loop-place.invariant.text;
}
