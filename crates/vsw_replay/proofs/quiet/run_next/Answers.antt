use Rattle.std.proofs.Common.{◌+◌, sym, ◌∙◌, ap, rules}
use Rattle.vsw_promise.specs.Schedule.{next_at}
use Rattle.vsw_replay.proofs.Lasting.{past_rises}
use Rattle.vsw_replay.proofs.Unput.{next_ran, next_stopped, past_leaves}
use Rattle.vsw_replay.proofs.quiet.run_next.Goals as goal

pub returns-in-Ok-clause-runs : goal.returns-in-Ok-clause-runs
returns-in-Ok-clause-runs c = λ s start now name e f.
    next_ran s start now name c.args.run.now c.run_batch.new.run c.args.switch.now c.run_batch.new.switch c.args.first c.in-Some.next c.requires.empty (ap (λ ls. next_at (c.args.first + 1) ls) e ∙ sym c.in-Some.ensures) (λ hs at. c.in-Ok.ensures.turn s hs e at) f

pub returns-in-Ok-clause-rises : goal.returns-in-Ok-clause-rises
returns-in-Ok-clause-rises c = (past_rises c.args.schedule.now c.args.first c.in-Some.next (sym c.in-Some.ensures), search rules)

pub returns-in-Err-clause-runs : goal.returns-in-Err-clause-runs
returns-in-Err-clause-runs c = λ s start now name e f. next_stopped s start now name c.args.run.now c.args.switch.now c.args.first c.in-Some.next c.requires.empty (ap (λ ls. next_at (c.args.first + 1) ls) e ∙ sym c.in-Some.ensures) f

pub returns-in-None-clause-runs : goal.returns-in-None-clause-runs
returns-in-None-clause-runs c = λ s start now name e f. past_leaves s start now name c.args.schedule.now c.args.run.now.short c.args.switch.now c.args.first e (sym c.in-None.ensures) f
