use Rattle.vsw_commandfile.proofs.LinesRead as lines
use Rattle.vsw_config.proofs.Policies as policies
use Rattle.vsw_files.specs.Early.{HasCommands}
use Rattle.vsw_run.specs.Seen.{request_seen}
use Rattle.vsw_app.proofs.Running.{ended_early, traced_as}
use Rattle.vsw_app.specs.Way.{is_local}
use Rattle.vsw_app.proofs.run.forward.Goals as goal

pub returns-in-Err : goal.returns-in-Err
returns-in-Err g c = ended_early (is_local c.args.way) (request_seen c.args.request.now) (g.H.Host.outside c.args.host.now) (g.H.Host.outside c.open_given.new.host) c.in-Err.end c.in-Err.ensures

pub run_through-requires-clause-good : goal.run_through-requires-clause-good
run_through-requires-clause-good g c κs within =
    let h : HasCommands (request_seen c.args.request.now) (g.H.Host.outside c.args.host.now) (g.H.Host.outside c.open_given.new.host) c.in-Ok.given.policy c.in-Ok.given.lines = c.in-Ok.ensures in
    policies.each_is_good h.policy_file.bytes c.in-Ok.given.policy h.policy_is.good

pub run_through-requires-clause-asked : goal.run_through-requires-clause-asked
run_through-requires-clause-asked g c κs within =
    let h : HasCommands (request_seen c.args.request.now) (g.H.Host.outside c.args.host.now) (g.H.Host.outside c.open_given.new.host) c.in-Ok.given.policy c.in-Ok.given.lines = c.in-Ok.ensures in
    (lines.each_is_good c.in-Ok.given.policy h.file.bytes c.in-Ok.given.lines h.are.good).can_ask

pub returns : goal.returns
returns g c =
    traced_as (is_local c.args.way) (request_seen c.args.request.now) (g.H.Host.outside c.args.host.now) (g.H.Host.outside c.open_given.new.host) (g.H.Host.outside c.run_through.new.host) c.in-Ok.given.policy c.in-Ok.given.lines c.run_through.result c.ending_of.result c.in-Ok.ensures c.run_through.ensures c.ending_of.ensures
