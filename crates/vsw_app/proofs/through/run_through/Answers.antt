use Rattle.std.proofs.Common.{All, subst, sym}
use Rattle.vsw_commandfile.specs.Good.{CanAsk}
use Rattle.vsw_replay.specs.Runs.{RunsTrace}
use Rattle.vsw_app.proofs.Running.{unstarted}
use Rattle.vsw_app.specs.Way.{is_local}
use Rattle.vsw_app.proofs.through.run_through.Goals as goal

pub returns-in_default : goal.returns-in_default
returns-in_default g c = unstarted _ (g.H.Host.outside c.args.host.now) c.args.trace.now

pub run_scheduled-requires-clause-asked : goal.run_scheduled-requires-clause-asked
run_scheduled-requires-clause-asked g c κs within = subst (All (CanAsk c.args.policy.now)) (sym c.in-Ok.ensures) c.requires.asked

pub returns : goal.returns
returns g c = subst (λ ls. RunsTrace (record { workers = c.args.workers; policy = c.args.policy.now; commands = ls; local = is_local c.args.way }) (g.H.Host.outside c.args.host.now) (g.H.Host.outside c.run_scheduled.new.host) c.args.trace.now c.run_scheduled.result) c.in-Ok.ensures c.run_scheduled.ensures
