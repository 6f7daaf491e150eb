use Rattle.std.proofs.Common.{IfOk, OnOk, Ok, subst}
use Rattle.vsw_crew.specs.Switch.{AreServed}
use Rattle.vsw_replay.specs.Private.Begun.{NearTurn, TurnsTo}
use Rattle.vsw_replay.proofs.stream.stream_rounds.Goals as goal

pub returns-in-Err : goal.returns-in-Err
returns-in-Err g c = record {
  runs = λ s start name e f. subst (λ r. TurnsTo s start (g.H.Host.outside c.stream_step-kept.new.host) name c.stream_step-kept.result.1 c.stream_step-kept.result.0 r) c.in-Err.is (c.stream_step-kept.ensures.goes s start name e (c.loop.invariant.turns s start name e f));
}

pub returns-in-Past : goal.returns-in-Past
returns-in-Past g c = record {
  runs = λ s start name e f.
      let called = c.stream_step-kept in
      let mid = g.H.Host.outside called.new.host in
      let turns = subst (λ r. TurnsTo s start mid name called.result.1 called.result.0 r) c.in-Ok.is (called.ensures.goes s start name e (c.loop.invariant.turns s start name e f)) in
      c.run_past.ensures.runs s start name e (subst (λ t. TurnsTo s start mid name called.result.1 called.result.0 (Ok t)) c.in-Past.is turns);
}

pub loop-preserved : goal.loop-preserved
loop-preserved g c =
    let called = c.stream_step-kept in
    let mid = g.H.Host.outside called.new.host in
    record {
      turns = λ s start name e f. subst (λ r. TurnsTo s start mid name called.result.1 called.result.0 r) c.in-Ok.is (called.ensures.goes s start name e (c.loop.invariant.turns s start name e f));
      near = subst (λ r. IfOk r (λ t. NearTurn mid called.result.1 t)) c.in-Ok.is called.ensures.near;
      served = subst (λ r. OnOk r (AreServed called.result.0 c.args.schedule.now)) c.in-Ok.is called.ensures.served;
    }
