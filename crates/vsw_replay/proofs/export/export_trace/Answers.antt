use Rattle.std.proofs.Common.{false, refl}
use Rattle.vsw_promise.specs.Jobs.{Setting}
use Rattle.vsw_replay.proofs.Asking.{all_listed, all_ports, all_rules}
use Rattle.vsw_replay.proofs.Exporting.{leaves_exports}
use Rattle.vsw_replay.proofs.export.export_trace.Goals as goal

pub run_quietly-requires : goal.run_quietly-requires
run_quietly-requires g c =
    let p = c.args.policy.now in
    let lines = c.args.schedule.now in
    record { served = c.in-Ok.ensures.served lines (all_listed p lines c.requires.asked) (all_ports p lines c.requires.asked) (all_rules p lines c.requires.asked) }

pub returns-in-Done : goal.returns-in-Done
returns-in-Done g c =
    let s : Setting = record { workers = 1; policy = c.args.policy.now; commands = c.args.schedule.now; local = false } in
    c.put_rows.ensures s (g.H.Host.outside c.args.host.now) c.args.trace.now c.run_quietly.ensures.outputs (c.in-Done.ensures.runs s refl (c.in-Ok.ensures.opens c.args.schedule.now))

pub returns : goal.returns
returns g c =
    let s : Setting = record { workers = 1; policy = c.args.policy.now; commands = c.args.schedule.now; local = false } in
    leaves_exports s (g.H.Host.outside c.args.host.now) (g.H.Host.outside c.run_quietly.new.host) c.args.trace.now c.run_quietly.new.switch c.run_quietly.result c.in_default-run_quietly.not-Done c.run_quietly.ensures.outputs (c.run_quietly.ensures.runs s refl (c.in-Ok.ensures.opens c.args.schedule.now))
