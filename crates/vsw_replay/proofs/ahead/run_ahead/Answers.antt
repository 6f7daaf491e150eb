use Rattle.std.proofs.Common.{subst}
use Rattle.vsw_crew.specs.Crew.{crew_now}
use Rattle.vsw_replay.specs.Private.Going.{GoesOn}
use Rattle.vsw_replay.specs.Private.Leading.{outcome}
use Rattle.vsw_replay.proofs.ahead.run_ahead.Goals as goal

pub returns-in-Some-clause-goes : goal.returns-in-Some-clause-goes
returns-in-Some-clause-goes g c = λ s start name e f.
    let b = c.lead_hands.new.ahead in
    subst (λ x. GoesOn s start (g.H.Host.outside c.lead_hands.new.host) name b.run (crew_now b.crew) (outcome b.stretch x)) c.in-Some.is (c.lead_hands.ensures.goes s start name e f)
