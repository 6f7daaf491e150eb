use Rattle.std.proofs.Common.{subst}
use Rattle.vsw_replay.specs.Private.Going.{GoesOn}
use Rattle.vsw_replay.proofs.trace.go_step.Goals as goal

pub returns-in-Ok-clause-goes : goal.returns-in-Ok-clause-goes
returns-in-Ok-clause-goes g c = λ s start name e f.
    let ahead = c.go_ahead-runner in
    c.run_stretch-next.ensures.goes s start name e (subst (λ r. GoesOn s start (g.H.Host.outside ahead.new.host) name ahead.result.1 ahead.result.0 r) c.in-Ok.is (ahead.ensures.goes s start name e f))

pub returns-in-Err-clause-goes : goal.returns-in-Err-clause-goes
returns-in-Err-clause-goes g c = λ s start name e f.
    let ahead = c.go_ahead-runner in
    subst (λ r. GoesOn s start (g.H.Host.outside ahead.new.host) name ahead.result.1 ahead.result.0 r) c.in-Err.is (ahead.ensures.goes s start name e f)
