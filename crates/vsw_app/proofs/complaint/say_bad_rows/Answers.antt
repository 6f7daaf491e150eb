use Rattle.std.proofs.Common.{◌++◌}
use Rattle.std.specs.Prelude.{codes}
use Rattle.vsw_run.specs.Complaint.{place_text}
use Rattle.vsw_app.proofs.Speaking.{speaks_then, speaks_part}
use Rattle.vsw_app.proofs.complaint.say_bad_rows.Goals as goal

pub returns-in-Ok : goal.returns-in-Ok
returns-in-Ok g c = speaks_then (g.H.Host.outside c.args.host.now) (g.H.Host.outside c.say.new.host) (g.H.Host.outside c.say_rows_end.new.host) (codes "vsw: refused rows ") (place_text c.args.why ++ codes "\n") c.say_rows_end.result c.in-Ok.field-0 c.in-Ok.ensures c.say_rows_end.ensures

pub returns-in-Err : goal.returns-in-Err
returns-in-Err g c = speaks_part (g.H.Host.outside c.args.host.now) (g.H.Host.outside c.say.new.host) (codes "vsw: refused rows ") (place_text c.args.why ++ codes "\n") c.in-Err.failed c.in-Err.failed c.in-Err.ensures
