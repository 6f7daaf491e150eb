use Rattle.vsw_app.proofs.Running.{unstarted}
use Rattle.vsw_app.proofs.through.run_beside.Goals as goal

pub returns-in_default : goal.returns-in_default
returns-in_default g c = unstarted _ (g.H.Host.outside c.args.host.now) c.args.trace.now
