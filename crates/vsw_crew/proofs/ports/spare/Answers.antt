use Rattle.std.proofs.Common.{◌≡◌, ◌+◌, suc, arith}
use Rattle.vsw_crew.proofs.GoneAtPort.{quiet_next}
use Rattle.vsw_crew.proofs.ports.spare.Goals as goal

pub loop-made-preserved : goal.loop-made-preserved
loop-made-preserved c =
    let l = c.loop-made in
    let next : l.made + 1 ≡ suc l.made = omega arith in
    record {
      within = omega (arith, c.loop-made-test.true);
      quiet = quiet_next l.made (l.made + 1) l.team.items c.push.new.callers.items c.new.result next l.invariant.quiet c.new.ensures c.in_ok-push.ensures;
    }
