use Rattle.std.proofs.Common.{true, false, length}
use Rattle.vsw_replay.proofs.Putting.{stretch_unrun}
use Rattle.vsw_replay.proofs.Unput.{near_same, stretch_runs}
use Rattle.vsw_replay.proofs.Turning.{runs_as}
use Rattle.vsw_replay.specs.Private.Exporting.{unput}
use Rattle.vsw_replay.proofs.quiet.run_read.Goals as goal

pub returns-then-is_run-clause-runs : goal.returns-then-is_run-clause-runs
returns-then-is_run-clause-runs c = λ s start now name e f.
    let run = c.args.run.now in
    let t = c.args.stretch in
    stretch_runs s start now name c.args.schedule.now run c.run_batch.new.run c.args.switch.now c.run_batch.new.switch t c.run_batch.result e
    (runs_as s.commands c.args.schedule.now (length run.reading.batch) c.len-count.result t.first t.stop c.is_run.result true e c.len-count.ensures c.is_run.ensures c.if-is_run.true)
    c.run_batch.ensures.reading
    c.run_batch.ensures.turn
    f

pub returns-then-is_run-clause-near : goal.returns-then-is_run-clause-near
returns-then-is_run-clause-near c = λ now n. near_same now c.args.run.now c.run_batch.new.run c.args.stretch c.run_batch.ensures.reading n

pub returns-else-is_run-clause-runs : goal.returns-else-is_run-clause-runs
returns-else-is_run-clause-runs c = λ s start now name e f.
    let run = c.args.run.now in
    let t = c.args.stretch in
    stretch_unrun s (unput start) now name run c.args.switch.now t
    (runs_as s.commands c.args.schedule.now (length run.reading.batch) c.len-count.result t.first t.stop c.is_run.result false e c.len-count.ensures c.is_run.ensures c.if-is_run.false)
    f
