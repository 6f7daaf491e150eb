use Rattle.std.proofs.Common.{◌+◌, sym, ◌∙◌, ap, rules}
use Rattle.vsw_promise.specs.Schedule.{next_at}
use Rattle.vsw_replay.proofs.Lasting.{past_ends, past_rises}
use Rattle.vsw_replay.proofs.Putting.{next_put, next_unput}
use Rattle.vsw_replay.proofs.trace.put_next.Goals as goal

pub returns-in-Ok-clause-puts : goal.returns-in-Ok-clause-puts
returns-in-Ok-clause-puts g c = λ s start name e f.
    next_put s start (g.H.Host.outside c.args.host.now) (g.H.Host.outside c.put_round.new.host) name c.args.run.now c.put_round.new.run c.args.runner.now c.put_round.new.runner c.args.first c.in-Some.next _ c.requires.empty (ap (λ ls. next_at (c.args.first + 1) ls) e ∙ sym c.in-Some.ensures) c.put_round.ensures.inputs (λ hs at. c.in-Ok.ensures.puts s hs e at) f

pub returns-in-Ok-clause-rises : goal.returns-in-Ok-clause-rises
returns-in-Ok-clause-rises g c = (past_rises c.args.schedule.now c.args.first c.in-Some.next (sym c.in-Some.ensures), search rules)

pub returns-in-Err-clause-puts : goal.returns-in-Err-clause-puts
returns-in-Err-clause-puts g c = λ s start name e f.
    next_unput s start (g.H.Host.outside c.args.host.now) (g.H.Host.outside c.put_round.new.host) name c.args.run.now c.put_round.new.run c.args.runner.now c.put_round.new.runner c.args.first c.in-Some.next c.in-Err.end c.requires.empty (ap (λ ls. next_at (c.args.first + 1) ls) e ∙ sym c.in-Some.ensures) c.put_round.ensures.inputs (λ hs at. c.in-Err.ensures.puts s hs e at) f

pub returns-in-None-clause-puts : goal.returns-in-None-clause-puts
returns-in-None-clause-puts g c = λ s start name e f. past_ends s start (g.H.Host.outside c.args.host.now) name c.args.schedule.now c.args.run.now.short c.args.runner.now c.args.first e (sym c.in-None.ensures) f
