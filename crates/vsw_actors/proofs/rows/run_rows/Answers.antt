use Rattle.vsw_actors.proofs.Rounds.{rows_given}
use Rattle.vsw_actors.proofs.rows.run_rows.Goals as goal

pub returns : goal.returns
returns g c = record {
  done = rows_given g.P.Port.port_in g.P.Port.locals g.P.Port.pass_in g.P.Port.job_in g.P.Port.tells g.P.Port.is_of g.P.Port.permits g.P.Port.takes c.args.ports.now c.args.rows.items c.args.shares.items c.in_ok-actors.actors.items c.in_ok-actors-2.actors.items c.end_all.result
      c.requires.begin c.in_ok-actors.ensures c.in_ok-actors-2.ensures c.end_all.ensures;
}
