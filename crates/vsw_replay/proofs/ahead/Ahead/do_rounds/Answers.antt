use Rattle.std.proofs.Common.{◌∙◌, ap, arith, sym, subst}
use Rattle.vsw_crew.specs.Crew.{crew_now}
use Rattle.vsw_replay.specs.Private.Ahead.{IsOwing}
use Rattle.vsw_replay.specs.Private.Leading.{IsLeading, OwesAt, left_by}
use Rattle.vsw_replay.proofs.Leading.{settled_leads}
use Rattle.vsw_replay.proofs.ahead.Ahead.do_rounds.Goals as goal

pub step-requires-clause-leading : goal.step-requires-clause-leading
step-requires-clause-leading g c =
    let lead = subst (λ p. IsLeading c.loop.self p (g.H.Host.outside c.loop.host)) (sym c.take.ensures.value ∙ c.in-Some-take.is) c.loop.invariant.leading in
    record { served = lead.served; near = lead.near; owes = lead.owes; picked = lead.picked }

pub loop-preserved : goal.loop-preserved
loop-preserved g c = record {
  goes = λ s start name e o. c.in-Ok.ensures.goes s start name (e ∙ ap (λ q. q.now) (sym c.loop.invariant.schedule)) (subst (λ p. OwesAt s start (g.H.Host.outside c.loop.host) name c.loop.self p) (sym c.take.ensures.value ∙ c.in-Some-take.is) (c.loop.invariant.goes s start name e o));
  leading = c.in-Ok.ensures.leading;
  idle = c.in-Ok.ensures.idle;
  rises = omega (arith, c.loop.invariant.rises, c.in-Ok.ensures.rises);
  schedule = c.step.ensures.schedule ∙ c.loop.invariant.schedule;
  end = c.step.ensures.end ∙ c.loop.invariant.end;
}

pub returns-in-Err-clause-goes : goal.returns-in-Err-clause-goes
returns-in-Err-clause-goes g c = λ s start name e o. c.in-Err.ensures.goes s start name (e ∙ ap (λ q. q.now) (sym c.loop.invariant.schedule)) (subst (λ p. OwesAt s start (g.H.Host.outside c.loop.host) name c.loop.self p) (sym c.take.ensures.value ∙ c.in-Some-take.is) (c.loop.invariant.goes s start name e o))

pub returns-in-None-take-clause-goes : goal.returns-in-None-take-clause-goes
returns-in-None-take-clause-goes g c = λ s start name e o.
    let a = c.loop.self in
    let old = g.H.Host.outside c.loop.host in
    let owes = subst (λ p. OwesAt s start old name a p) (sym c.take.ensures.value ∙ c.in-None-take.is) (c.loop.invariant.goes s start name e o) in
    let owed = subst (λ w. IsOwing s start old name a.run (crew_now a.crew) (left_by a.crew.harbour w) a.stretch) (sym c.take-owed.ensures.value) owes in
    settled_leads s start old (g.H.Host.outside c.settle.new.host) name a.run c.settle.new.run (crew_now c.settle.new.crew) a.crew.harbour c.take-owed.result a.stretch c.settle.result c.settle.ensures.reading
    (λ packets w. c.settle.ensures.settles s start name packets (crew_now c.settle.new.crew) a.stretch w)
    (subst (λ x. IsOwing s start old name a.run (crew_now x) (left_by a.crew.harbour c.take-owed.result) a.stretch) (sym c.settle.ensures.crew) owed)
