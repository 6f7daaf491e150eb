use Rattle.std.proofs.Common.{rules}
use Rattle.vsw_actors.proofs.Rounds.{all_end, ends_first, ends_on}
use Rattle.vsw_actors.proofs.rows.end_all.Goals as goal

pub loop-actors-init : goal.loop-actors-init
loop-actors-init g c = ends_first g.P.Port.port_in g.P.Port.locals g.P.Port.pass_in g.P.Port.job_in g.P.Port.tells g.P.Port.is_of g.P.Port.permits c.args.actors.items c.new-rows.result.items c.new-rows.ensures.items

pub loop-actors-preserved : goal.loop-actors-preserved
loop-actors-preserved g c =
    ends_on g.P.Port.port_in g.P.Port.locals g.P.Port.pass_in g.P.Port.job_in g.P.Port.tells g.P.Port.is_of g.P.Port.permits c.args.actors.items c.loop-actors.actors.items c.first.new.all.items c.first.result c.loop-actors.rows.items c.put.new.all.items c.end-lanes.result.0
    c.first.ensures c.in_ok-put.ensures.items c.end-lanes.ensures.fit c.end-lanes.ensures.done c.loop-actors.invariant

pub returns : goal.returns
returns g c = all_end g.P.Port.port_in g.P.Port.locals g.P.Port.pass_in g.P.Port.job_in g.P.Port.tells g.P.Port.is_of g.P.Port.permits c.args.actors.items c.loop-actors.actors.items c.loop-actors.rows.items (search rules) c.loop-actors.invariant
