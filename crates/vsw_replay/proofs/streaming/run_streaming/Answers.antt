use Rattle.std.proofs.Common.{IfOk, OnOk, subst}
use Rattle.vsw_crew.specs.Crew.{crew_now}
use Rattle.vsw_crew.specs.Switch.{AreServed}
use Rattle.vsw_replay.specs.Private.Begun.{NearTurn, TurnsTo}
use Rattle.vsw_replay.specs.Private.Streaming.{turned}
use Rattle.vsw_replay.proofs.streaming.run_streaming.Goals as goal

pub returns-in-Some-clause-goes : goal.returns-in-Some-clause-goes
returns-in-Some-clause-goes g c = λ s start name e f.
    let b = c.stream_hands.new.streaming in
    subst (λ x. TurnsTo s start (g.H.Host.outside c.stream_hands.new.host) name b.run (crew_now b.crew) (turned b.turn x)) c.in-Some.is (c.stream_hands.ensures.goes s start name e f)

pub returns-in-None-clause-goes : goal.returns-in-None-clause-goes
returns-in-None-clause-goes g c = λ s start name e f.
    let b = c.stream_hands.new.streaming in
    subst (λ x. TurnsTo s start (g.H.Host.outside c.stream_hands.new.host) name b.run (crew_now b.crew) (turned b.turn x)) c.in-None.is (c.stream_hands.ensures.goes s start name e f)

pub returns-in-None-clause-near : goal.returns-in-None-clause-near
returns-in-None-clause-near g c =
    let b = c.stream_hands.new.streaming in
    subst (λ x. IfOk (turned b.turn x) (λ t. NearTurn (g.H.Host.outside c.stream_hands.new.host) b.run t)) c.in-None.is c.stream_hands.ensures.near

pub returns-in-None-clause-served : goal.returns-in-None-clause-served
returns-in-None-clause-served g c =
    let b = c.stream_hands.new.streaming in
    subst (λ x. OnOk (turned b.turn x) (AreServed (crew_now b.crew) c.args.schedule.now)) c.in-None.is c.stream_hands.ensures.served
