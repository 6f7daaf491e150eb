use Rattle.std.proofs.Common.{All, false, subst, sym}
use Rattle.vsw_commandfile.specs.Good.{CanAsk}
use Rattle.vsw_replay.specs.Exports.{ExportsTrace}
use Rattle.vsw_app.proofs.Exporting.{unexported}
use Rattle.vsw_app.proofs.offload.export_through.Goals as goal

pub returns-in_default : goal.returns-in_default
returns-in_default g c = unexported _ (g.H.Host.outside c.args.host.now) c.args.trace.now

pub export_trace-requires-clause-asked : goal.export_trace-requires-clause-asked
export_trace-requires-clause-asked g c = subst (All (CanAsk c.args.policy.now)) (sym c.in-Ok.ensures) c.requires.asked

pub returns : goal.returns
returns g c = subst (λ ls. ExportsTrace (record { workers = 1; policy = c.args.policy.now; commands = ls; local = false }) (g.H.Host.outside c.args.host.now) (g.H.Host.outside c.export_trace.new.host) c.args.trace.now c.export_trace.result) c.in-Ok.ensures c.export_trace.ensures
