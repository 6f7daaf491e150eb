use Rattle.std.proofs.Common.{◌≡◌, Ok, sym, ◌∙◌, ap, subst}
use Rattle.vsw_crew.specs.Crew.{crew_now}
use Rattle.vsw_replay.specs.Private.Begun.{TurnsTo}
use Rattle.vsw_replay.specs.Private.Runner.{now_in}
use Rattle.vsw_replay.proofs.runner.go_streaming.Goals as goal

pub returns-in-Beside-clause-goes : goal.returns-in-Beside-clause-goes
returns-in-Beside-clause-goes g c = λ s start name e f.
    let called = c.run_streaming-crew in
    let same : c.args.runner ≡ crew_now c.in-Beside.crew = sym c.runner.view_is ∙ ap now_in c.in-Beside.is in
    subst (λ w. TurnsTo s start (g.H.Host.outside called.new.host) name called.result.1 w called.result.2) (sym c.beside.ensures)
    (called.ensures.goes s start name e (subst (λ w. TurnsTo s start (g.H.Host.outside c.args.host.now) name c.args.run w (Ok c.args.turn)) (same ∙ ap crew_now (sym c.in-Beside.crew-is)) f))
