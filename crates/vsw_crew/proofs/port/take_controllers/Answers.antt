use Rattle.std.proofs.Common.{◌<◌, ◌∙◌, arith, length}
use Rattle.std.proofs.lemmas.List.{drop_more}
use Rattle.vsw_crew.proofs.Steps.{next_taken}
use Rattle.vsw_crew.proofs.port.take_controllers.Goals as goal

pub loop-at-preserved : goal.loop-at-preserved
loop-at-preserved c =
    let l = c.loop-at in
    let one = c.take_at in
    let two = c.take_at-in-loop-at in
    let lt : l.at < length c.args.places.now = omega (arith, c.loop-at-test.true, l.auto.at-end) in
    let next = next_taken c.args.place l.at _ c.args.places.now l.firsts l.laters one.new.rows two.new.rows l.out.items c.push.new.callers.items c.push-in-loop-at.new.callers.items one.result two.result (drop_more c.args.places.now l.at 0 lt)
    l.invariant.once one.ensures.taken one.ensures.rows two.ensures.taken two.ensures.rows c.in_ok-push.ensures c.in_ok-push-2.ensures in
    record {
      once = next.once;
      told = next.told ∙ l.invariant.told;
      firsts = next.firsts_are ∙ l.invariant.firsts;
      laters = next.laters_are ∙ l.invariant.laters;
    }
