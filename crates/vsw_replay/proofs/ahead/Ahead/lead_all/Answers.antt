use Rattle.std.proofs.Common.{◌∙◌, ap, sym}
use Rattle.vsw_crew.specs.Crew.{crew_now}
use Rattle.vsw_replay.proofs.Leading.{filled_stops, picked_owes}
use Rattle.vsw_replay.proofs.ahead.Ahead.lead_all.Goals as goal

pub returns-in-Ok-do_rounds-clause-goes : goal.returns-in-Ok-do_rounds-clause-goes
returns-in-Ok-do_rounds-clause-goes g c = λ s start name e f.
    c.in-Ok-do_rounds.ensures.goes s start name (e ∙ ap (λ q. q.now) (sym c.pick.ensures.same.schedule)) (picked_owes s start (g.H.Host.outside c.args.host.now) name c.args.self.now c.pick.new.self c.requires.may.owed c.pick.ensures.same c.in-Ok.ensures.run f)

pub returns-in-Err-do_rounds-clause-goes : goal.returns-in-Err-do_rounds-clause-goes
returns-in-Err-do_rounds-clause-goes g c = λ s start name e f.
    c.in-Err-do_rounds.ensures.goes s start name (e ∙ ap (λ q. q.now) (sym c.pick.ensures.same.schedule)) (picked_owes s start (g.H.Host.outside c.args.host.now) name c.args.self.now c.pick.new.self c.requires.may.owed c.pick.ensures.same c.in-Ok.ensures.run f)

pub returns-in-Err-clause-goes : goal.returns-in-Err-clause-goes
returns-in-Err-clause-goes g c = λ s start name e f.
    let a = c.args.self.now in
    filled_stops s start (g.H.Host.outside c.args.host.now) name a.run (crew_now a.crew) a.stretch c.in-Err.end c.in-Err.ensures.end f
