use Rattle.std.proofs.Common.{refl}
use Rattle.vsw_run.specs.Seen.{request_seen}
use Rattle.vsw_app.proofs.given.open_given.Goals as goal

pub returns-in-Err : goal.returns-in-Err
returns-in-Err g c = c.in-Err.ensures (request_seen c.args.request.now) refl

pub returns-in-Ok-open_commands : goal.returns-in-Ok-open_commands
returns-in-Ok-open_commands g c =
    let q = request_seen c.args.request.now in
    c.in-Ok-open_commands.ensures q (g.H.Host.outside c.args.host.now) refl (c.in-Ok.ensures q refl)

pub returns-in-Err-open_commands : goal.returns-in-Err-open_commands
returns-in-Err-open_commands g c =
    let q = request_seen c.args.request.now in
    c.in-Err-open_commands.ensures q (g.H.Host.outside c.args.host.now) refl (c.in-Ok.ensures q refl)
