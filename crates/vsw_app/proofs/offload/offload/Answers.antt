use Rattle.vsw_commandfile.proofs.LinesRead as lines
use Rattle.vsw_config.proofs.Policies as policies
use Rattle.vsw_files.specs.Early.{HasCommands}
use Rattle.vsw_run.specs.Seen.{request_seen}
use Rattle.vsw_app.proofs.Exporting.{exported_as, exported_early}
use Rattle.vsw_app.proofs.offload.offload.Goals as goal

pub returns-in-Err : goal.returns-in-Err
returns-in-Err g c = exported_early (request_seen c.args.request.now) (g.H.Host.outside c.args.host.now) (g.H.Host.outside c.open_given.new.host) c.in-Err.end c.in-Err.ensures

pub export_through-requires-clause-good : goal.export_through-requires-clause-good
export_through-requires-clause-good g c =
    let h : HasCommands (request_seen c.args.request.now) (g.H.Host.outside c.args.host.now) (g.H.Host.outside c.open_given.new.host) c.in-Ok.given.policy c.in-Ok.given.lines = c.in-Ok.ensures in
    policies.each_is_good h.policy_file.bytes c.in-Ok.given.policy h.policy_is.good

pub export_through-requires-clause-asked : goal.export_through-requires-clause-asked
export_through-requires-clause-asked g c =
    let h : HasCommands (request_seen c.args.request.now) (g.H.Host.outside c.args.host.now) (g.H.Host.outside c.open_given.new.host) c.in-Ok.given.policy c.in-Ok.given.lines = c.in-Ok.ensures in
    (lines.each_is_good c.in-Ok.given.policy h.file.bytes c.in-Ok.given.lines h.are.good).can_ask

pub returns : goal.returns
returns g c =
    exported_as (request_seen c.args.request.now) (g.H.Host.outside c.args.host.now) (g.H.Host.outside c.open_given.new.host) (g.H.Host.outside c.export_through.new.host) c.in-Ok.given.policy c.in-Ok.given.lines c.export_through.result c.ending_of.result c.requires.alone c.in-Ok.ensures c.export_through.ensures c.ending_of.ensures
