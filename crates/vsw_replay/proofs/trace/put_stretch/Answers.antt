use Rattle.std.proofs.Common.{true, false, length}
use Rattle.vsw_replay.proofs.Putting.{stretch_put, stretch_unrun}
use Rattle.vsw_replay.proofs.Turning.{runs_as}
use Rattle.vsw_replay.proofs.trace.put_stretch.Goals as goal

pub returns-then-is_run-clause-puts : goal.returns-then-is_run-clause-puts
returns-then-is_run-clause-puts g c = λ s start name e f.
    let run = c.args.run.now in
    let t = c.args.stretch in
    stretch_put s start (g.H.Host.outside c.args.host.now) (g.H.Host.outside c.put_round.new.host) name run c.put_round.new.run c.args.runner.now c.put_round.new.runner t c.put_round.result
    (runs_as s.commands c.args.schedule.now (length run.reading.batch) c.len-count.result t.first t.stop c.is_run.result true e c.len-count.ensures c.is_run.ensures c.if-is_run.true)
    c.put_round.ensures.reading
    c.put_round.ensures.inputs
    (λ hs at. c.put_round.ensures.puts s hs e at)
    f

pub returns-else-is_run-clause-puts : goal.returns-else-is_run-clause-puts
returns-else-is_run-clause-puts g c = λ s start name e f.
    let run = c.args.run.now in
    let t = c.args.stretch in
    stretch_unrun s start (g.H.Host.outside c.args.host.now) name run c.args.runner.now t
    (runs_as s.commands c.args.schedule.now (length run.reading.batch) c.len-count.result t.first t.stop c.is_run.result false e c.len-count.ensures c.is_run.ensures c.if-is_run.false)
    f
