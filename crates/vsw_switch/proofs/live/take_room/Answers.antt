use Rattle.vsw_switch.proofs.Places.{set_here}
use Rattle.vsw_switch.proofs.live.take_room.Goals as goal

pub returns-clause-same : goal.returns-clause-same
returns-clause-same c = set_here c.args.callers.now.items 0 c.index_mut-first.result.now c.take_room.new.self c.index_mut-first.ensures.value c.take_room.ensures.same
