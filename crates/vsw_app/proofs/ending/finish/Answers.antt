use Rattle.vsw_run.specs.Complaint.{complaint}
use Rattle.vsw_app.proofs.Speaking.{complains_of}
use Rattle.vsw_app.proofs.ending.finish.Goals as goal

pub returns-clause-complains : goal.returns-clause-complains
returns-clause-complains g c = complains_of (g.H.Host.outside c.args.host.now) (g.H.Host.outside c.say_ending.new.host) (complaint c.args.end.now) c.say_ending.result c.say_ending.ensures
