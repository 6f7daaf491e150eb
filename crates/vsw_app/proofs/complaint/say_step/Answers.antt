use Rattle.std.specs.Prelude.{codes}
use Rattle.vsw_app.specs.Speaks.{name_text}
use Rattle.vsw_app.proofs.Speaking.{speaks_then, speaks_part, speaks_is, step_is}
use Rattle.vsw_app.proofs.complaint.say_step.Goals as goal

pub returns-in-Ok : goal.returns-in-Ok
returns-in-Ok g c = speaks_is _ _ _ _ _ (step_is c.args.step.now) (speaks_then (g.H.Host.outside c.args.host.now) (g.H.Host.outside c.say.new.host) (g.H.Host.outside c.say_name.new.host) (codes "/") (name_text c.args.step.now) c.say_name.result c.in-Ok.field-0 c.in-Ok.ensures c.say_name.ensures)

pub returns-in-Err : goal.returns-in-Err
returns-in-Err g c = speaks_is _ _ _ _ _ (step_is c.args.step.now) (speaks_part (g.H.Host.outside c.args.host.now) (g.H.Host.outside c.say.new.host) (codes "/") (name_text c.args.step.now) c.in-Err.failed c.in-Err.failed c.in-Err.ensures)
