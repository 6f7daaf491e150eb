use Rattle.std.proofs.Common.{◌+◌, length}
use Rattle.vsw_actors.proofs.Picking.{is_pick}
use Rattle.vsw_actors.proofs.handed.hand_over.Goals as goal

pub returns-in_ok-give_pick-in-Ok-clause-fit : goal.returns-in_ok-give_pick-in-Ok-clause-fit
returns-in_ok-give_pick-in-Ok-clause-fit c = λ packets there before.
    let ports = length c.args.macs.now in
    c.in_ok-give_pick-in-Ok.ensures.fit ports packets (is_pick ports c.args.workers (c.args.first + c.args.at) c.args.at c.args.captured.now c.in-Ok.packet packets there c.in-Ok.ensures.brought c.in-Ok.ensures.fit) before
