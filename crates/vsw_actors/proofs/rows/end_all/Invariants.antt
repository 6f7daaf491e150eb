use Rattle.std.proofs.Common.{vec_len}
use Rattle.vsw_actors.proofs.Rounds.{EndsWith}
use Rattle.vsw_actors.proofs.rows.end_all.Given as goal

abbrev pub invariant-loop-actors : goal.invariant-loop-actors
invariant-loop-actors g l = EndsWith g.P.Port.port_in g.P.Port.locals g.P.Port.pass_in g.P.Port.job_in g.P.Port.tells g.P.Port.is_of g.P.Port.permits l.fn.actors.items l.actors.items l.rows.items

abbrev pub decreases-loop-actors : goal.decreases-loop-actors
decreases-loop-actors g l = vec_len l.actors
