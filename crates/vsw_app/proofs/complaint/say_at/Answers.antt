use Rattle.std.specs.Prelude.{decimal}
use Rattle.vsw_app.proofs.Speaking.{speaks_then, speaks_part}
use Rattle.vsw_app.proofs.complaint.say_at.Goals as goal

pub returns-in-Ok : goal.returns-in-Ok
returns-in-Ok g c = speaks_then (g.H.Host.outside c.args.host.now) (g.H.Host.outside c.say.new.host) (g.H.Host.outside c.say_number.new.host) c.args.word.now (decimal c.args.at) c.say_number.result c.in-Ok.field-0 c.in-Ok.ensures c.say_number.ensures

pub returns-in-Err : goal.returns-in-Err
returns-in-Err g c = speaks_part (g.H.Host.outside c.args.host.now) (g.H.Host.outside c.say.new.host) c.args.word.now (decimal c.args.at) c.in-Err.failed c.in-Err.failed c.in-Err.ensures
