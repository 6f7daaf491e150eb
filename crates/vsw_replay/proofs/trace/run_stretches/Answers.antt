use Rattle.std.proofs.Common.{IfOk, OnOk, subst}
use Rattle.vsw_crew.specs.Switch.{AreServed}
use Rattle.vsw_replay.specs.Private.Going.{GoesOn, IsNear}
use Rattle.vsw_replay.proofs.trace.run_stretches.Goals as goal

pub returns-in-Err : goal.returns-in-Err
returns-in-Err g c = record {
  runs = λ s start name e f. subst (λ r. GoesOn s start (g.H.Host.outside c.go_step-kept.new.host) name c.go_step-kept.result.1 c.go_step-kept.result.0 r) c.in-Err.is (c.go_step-kept.ensures.goes s start name e (c.loop-next.invariant.filled s start name e f));
}

pub loop-next-preserved : goal.loop-next-preserved
loop-next-preserved g c = record {
  filled = λ s start name e f. subst (λ r. GoesOn s start (g.H.Host.outside c.go_step-kept.new.host) name c.go_step-kept.result.1 c.go_step-kept.result.0 r) c.in-Ok.is (c.go_step-kept.ensures.goes s start name e (c.loop-next.invariant.filled s start name e f));
  near = subst (λ r. IfOk r (λ t. IsNear (g.H.Host.outside c.go_step-kept.new.host) c.go_step-kept.result.1 t)) c.in-Ok.is c.go_step-kept.ensures.near;
  served = subst (λ r. OnOk r (AreServed c.go_step-kept.result.0 c.args.schedule.now)) c.in-Ok.is c.go_step-kept.ensures.served;
}
