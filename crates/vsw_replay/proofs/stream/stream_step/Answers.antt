use Rattle.std.proofs.Common.{Ok, subst}
use Rattle.vsw_replay.specs.Private.Begun.{TurnsTo}
use Rattle.vsw_replay.proofs.stream.stream_step.Goals as goal

pub returns-in-Begun-clause-goes : goal.returns-in-Begun-clause-goes
returns-in-Begun-clause-goes g c = λ s start name e f.
    let called = c.go_streaming-runner in
    let mid = g.H.Host.outside called.new.host in
    let turns = subst (λ r. TurnsTo s start mid name called.result.1 called.result.0 r) c.in-Ok.is (called.ensures.goes s start name e f) in
    c.run_whole-next.ensures.goes s start name e (subst (λ t. TurnsTo s start mid name called.result.1 called.result.0 (Ok t)) c.in-Begun.is turns)

pub returns-in-Past-clause-goes : goal.returns-in-Past-clause-goes
returns-in-Past-clause-goes g c = λ s start name e f.
    let called = c.go_streaming-runner in
    subst (λ r. TurnsTo s start (g.H.Host.outside called.new.host) name called.result.1 called.result.0 r) c.in-Ok.is (called.ensures.goes s start name e f)
