use Rattle.std.specs.Prelude.{codes}
use Rattle.vsw_run.specs.Complaint.{fault_text}
use Rattle.vsw_app.proofs.Speaking.{speaks_then, speaks_part}
use Rattle.vsw_app.proofs.complaint.say_fault_apart.Goals as goal

pub returns-in-Ok : goal.returns-in-Ok
returns-in-Ok g c = speaks_then (g.H.Host.outside c.args.host.now) (g.H.Host.outside c.say.new.host) (g.H.Host.outside c.say_fault.new.host) (codes " ") (fault_text c.args.kind c.args.path.now) c.say_fault.result c.in-Ok.field-0 c.in-Ok.ensures c.say_fault.ensures

pub returns-in-Err : goal.returns-in-Err
returns-in-Err g c = speaks_part (g.H.Host.outside c.args.host.now) (g.H.Host.outside c.say.new.host) (codes " ") (fault_text c.args.kind c.args.path.now) c.in-Err.failed c.in-Err.failed c.in-Err.ensures
