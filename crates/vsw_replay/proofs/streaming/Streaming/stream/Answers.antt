use Rattle.std.proofs.Common.{◌∙◌, ap, sym}
use Rattle.vsw_crew.specs.Crew.{crew_now}
use Rattle.vsw_replay.proofs.streaming.Streaming.stream.Goals as goal

pub returns-in-Ok-follow-clause-goes : goal.returns-in-Ok-follow-clause-goes
returns-in-Ok-follow-clause-goes g c = λ s start name e q. c.in-Ok-follow.ensures.goes s start name (crew_now c.carry.new.self.crew) (e ∙ ap (λ w. w.now) (sym c.carry.ensures.same.schedule)) (c.in-Ok.ensures.goes s start name e q)

pub returns-in-Err-follow-clause-goes : goal.returns-in-Err-follow-clause-goes
returns-in-Err-follow-clause-goes g c = λ s start name e q. c.in-Err-follow.ensures.goes s start name (crew_now c.carry.new.self.crew) (e ∙ ap (λ w. w.now) (sym c.carry.ensures.same.schedule)) (c.in-Ok.ensures.goes s start name e q)
