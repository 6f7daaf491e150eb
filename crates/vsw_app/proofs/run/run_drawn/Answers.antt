use Rattle.std.proofs.Common.{[]}
use Rattle.vsw_replay.proofs.Summing.{nothing_put}
use Rattle.vsw_app.proofs.run.run_drawn.Goals as goal

pub returns-in_default : goal.returns-in_default
returns-in_default g c = nothing_put c.args.start c.args.packets (g.H.Host.outside c.args.host.now)

pub returns : goal.returns
returns g c = c.run_workload.ensures.runs c.args.policy.now c.requires.policy (c.in-Ok.ensures.opens [])
