use Rattle.std.proofs.Common.{arith, ◌+◌}
use Rattle.vsw_replay.proofs.run.run_rounds.Goals as goal

pub loop-count-preserved : goal.loop-count-preserved
loop-count-preserved c = record {
  goes = λ s all e g. c.in_ok-count.ensures.goes s all e (c.loop-count.invariant.goes s all e g);
  few = omega (arith, c.in_ok-count.ensures.left, c.loop-count.invariant.few);
  served = c.run_next.ensures.served c.args.schedule.now c.loop-count.invariant.served;
}

pub returns-then-count-eq0 : goal.returns-then-count-eq0
returns-then-count-eq0 c = record {
  goes = λ s all e g. (c.loop-count.first + c.in_ok-count.count, c.in_ok-count.ensures.goes s all e (c.loop-count.invariant.goes s all e g));
  end = c.in_ok-count.ensures.end c.if-count-eq0.true;
}
