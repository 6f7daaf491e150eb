use Rattle.vsw_app.proofs.Drawing.{generated, ungenerated}
use Rattle.vsw_app.proofs.run.generate.Goals as goal

pub returns-in-Ok : goal.returns-in-Ok
returns-in-Ok g c = generated c.args.start c.args.packets (g.H.Host.outside c.args.host.now) (g.H.Host.outside c.run_drawn.new.host) c.run_drawn.result c.drawn_ending.result c.run_drawn.ensures c.drawn_ending.ensures

pub returns : goal.returns
returns g c = ungenerated c.args.start c.args.packets (g.H.Host.outside c.args.host.now)
