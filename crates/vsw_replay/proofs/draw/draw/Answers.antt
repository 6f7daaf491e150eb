use Rattle.std.proofs.Common.{◌++◌, Bool, true, false, length, ap, ◌∙◌, subst, arith}
use Rattle.vsw_replay.specs.Draws.{DrawsOne, records_left}
use Rattle.vsw_replay.proofs.Drawing.{draws_all, draws_none}
use Rattle.vsw_replay.proofs.draw.draw.Goals as goal

pub loop-workload-init : goal.loop-workload-init
loop-workload-init c = record {
  so_far = ap (λ b. b ++ records_left c.args.workload.now) c.requires;
  count = omega (arith, ap length c.requires);
  most = omega (arith, ap length c.requires);
}

pub returns-then-not-branch : goal.returns-then-not-branch
returns-then-not-branch c =
    let before = c.loop-workload in
    let d : DrawsOne before.workload c.draw_one.new.workload before.batch c.draw_one.new.batch false = subst (λ (b : Bool). DrawsOne before.workload c.draw_one.new.workload before.batch c.draw_one.new.batch b) c.if-not-branch.true c.in_ok-draw_one.ensures in
    draws_none c.args.workload.now before.workload c.draw_one.new.workload before.batch c.draw_one.new.batch d before.invariant.so_far before.invariant.count before.invariant.most

pub loop-workload-smaller : goal.loop-workload-smaller
loop-workload-smaller c =
    let before = c.loop-workload in
    let d : DrawsOne before.workload c.draw_one.new.workload before.batch c.draw_one.new.batch true = subst (λ (b : Bool). DrawsOne before.workload c.draw_one.new.workload before.batch c.draw_one.new.batch b) c.if-not-branch.false c.in_ok-draw_one.ensures in
    omega (arith, d.1, c.len.ensures, c.loop-workload-test.true)

pub loop-workload-preserved : goal.loop-workload-preserved
loop-workload-preserved c =
    let before = c.loop-workload in
    let d : DrawsOne before.workload c.draw_one.new.workload before.batch c.draw_one.new.batch true = subst (λ (b : Bool). DrawsOne before.workload c.draw_one.new.workload before.batch c.draw_one.new.batch b) c.if-not-branch.false c.in_ok-draw_one.ensures in
    record {
      so_far = d.0 ∙ before.invariant.so_far;
      count = omega (arith, d.1, d.2, before.invariant.count);
      most = omega (arith, d.1, c.len.ensures, c.loop-workload-test.true);
    }

pub returns : goal.returns
returns c = draws_all c.args.workload.now c.loop-workload.workload c.loop-workload.batch c.loop-workload.invariant.so_far c.loop-workload.invariant.count c.loop-workload.invariant.most (omega (arith, c.len.ensures, c.loop-workload-test.false))
