use Rattle.vsw_actors.proofs.Ending.{all_met}
use Rattle.vsw_actors.proofs.law.actor_laws.Goals as goal

pub returns : goal.returns
returns g c = record { ends = all_met g.P.Port.port_in g.P.Port.locals g.P.Port.pass_in g.P.Port.job_in g.P.Port.tells }
