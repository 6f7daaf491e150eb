use Rattle.std.proofs.Common.{arith}
use Rattle.vsw_actors.proofs.Doing.{nothing_done}
use Rattle.vsw_actors.proofs.actor.Actor.begin.Goals as goal

pub invariant_of-result : goal.invariant_of-result
invariant_of-result g c =
    (c.requires.ports.0, c.requires.ports.1, omega arith, c.requires.few, c.requires.fit, c.requires.mine, nothing_done g.P.Port.port_in g.P.Port.locals g.P.Port.pass_in g.P.Port.job_in g.P.Port.tells c.args.number c.args.ports.now c.args.lanes.items c.requires.begins, c.requires.alike, c.requires.roomy)
