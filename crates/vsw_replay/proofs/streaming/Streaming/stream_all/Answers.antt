use Rattle.std.proofs.Common.{Ok, ◌∙◌, ap, sym, subst}
use Rattle.vsw_crew.specs.Crew.{crew_now}
use Rattle.vsw_crew.specs.Switch.{AreServed}
use Rattle.vsw_replay.specs.Private.Begun.{NearTurn, TurnsTo}
use Rattle.vsw_replay.proofs.Parts.{begun_part}
use Rattle.vsw_replay.proofs.streaming.Streaming.stream_all.Goals as goal

pub stream-requires : goal.stream-requires
stream-requires g c =
    let to = c.in-Some-to_stream.ensures in
    record {
      idle = c.loop.invariant.idle;
      served = subst (λ q. AreServed (crew_now c.loop.self.crew) q.now) (sym c.loop.invariant.same.schedule) c.loop.invariant.served;
      near = subst (NearTurn (g.H.Host.outside c.loop.host) c.loop.self.run) to.is c.loop.invariant.near;
      full = to.full;
      quiet = to.quiet;
    }

pub loop-preserved : goal.loop-preserved
loop-preserved g c =
    let to = c.in-Some-to_stream.ensures in
    let a = c.loop.self in
    let old = g.H.Host.outside c.loop.host in
    let same = c.loop.invariant.same in
    record {
      goes = λ s start name e f. c.in-Ok.ensures.goes s start name (e ∙ ap (λ q. q.now) (sym same.schedule)) (begun_part s start old name a.run (crew_now a.crew) c.in-Some-to_stream.begun to.full (subst (λ w. TurnsTo s start old name a.run (crew_now a.crew) (Ok w)) to.is (c.loop.invariant.goes s start name e f)));
      near = c.in-Ok.ensures.near;
      served = subst (λ q. AreServed (crew_now c.stream.new.self.crew) q.now) same.schedule c.in-Ok.ensures.served;
      idle = c.in-Ok.ensures.idle;
      same = record { schedule = c.stream.ensures.same.schedule ∙ same.schedule; turn = c.stream.ensures.same.turn ∙ same.turn; end = c.stream.ensures.same.end ∙ same.end };
    }

pub returns-in-Err-clause-goes : goal.returns-in-Err-clause-goes
returns-in-Err-clause-goes g c = λ s start name e f.
    let to = c.in-Some-to_stream.ensures in
    let a = c.loop.self in
    let old = g.H.Host.outside c.loop.host in
    c.in-Err.ensures.goes s start name (e ∙ ap (λ q. q.now) (sym c.loop.invariant.same.schedule)) (begun_part s start old name a.run (crew_now a.crew) c.in-Some-to_stream.begun to.full (subst (λ w. TurnsTo s start old name a.run (crew_now a.crew) (Ok w)) to.is (c.loop.invariant.goes s start name e f)))
