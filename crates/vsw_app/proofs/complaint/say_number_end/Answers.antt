use Rattle.std.proofs.Common.{ap}
use Rattle.std.specs.Prelude.{codes, decimal}
use Rattle.vsw_app.proofs.Speaking.{speaks_then, speaks_part, speaks_is}
use Rattle.vsw_app.proofs.complaint.say_number_end.Goals as goal

pub returns-in-Ok : goal.returns-in-Ok
returns-in-Ok g c = speaks_then (g.H.Host.outside c.args.host.now) (g.H.Host.outside c.say_number.new.host) (g.H.Host.outside c.say.new.host) (decimal c.args.number) (codes "\n") c.say.result c.in-Ok.field-0 (speaks_is _ _ _ _ _ (ap decimal c.from.ensures) c.in-Ok.ensures) c.say.ensures

pub returns-in-Err : goal.returns-in-Err
returns-in-Err g c = speaks_part (g.H.Host.outside c.args.host.now) (g.H.Host.outside c.say_number.new.host) (decimal c.args.number) (codes "\n") c.in-Err.failed c.in-Err.failed (speaks_is _ _ _ _ _ (ap decimal c.from.ensures) c.in-Err.ensures)
