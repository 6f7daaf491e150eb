use Rattle.std.proofs.Common.{◌<◌, arith, ap, ◌∙◌}
use Rattle.vsw_report.specs.Order.{emptied}
use Rattle.vsw_report.specs.Steps.{past_entry, past_reads}
use Rattle.vsw_report.proofs.Fronts.{emptied_map, one_count, one_short}
use Rattle.vsw_report.proofs.LastReads.{both_within}
use Rattle.vsw_report.proofs.merging.move_counts.Goals as goal

pub loop-next-preserved : goal.loop-next-preserved
loop-next-preserved c =
    let l = c.loop-next in
    let n = c.loop-next.next in
    let lt : n < c.args.after = c.loop-next-test.true in
    let new = c.move_count.new in
    let moved = c.in_ok-told.ensures in
    record {
      counts = omega (arith, lt);
      text = one_count n c.args.after l.out.items new.out.items l.workers new.workers l.controllers new.controllers lt moved.text moved.workers moved.controllers ∙ l.invariant.text;
      short = one_short n c.args.after l.short c.in_ok-told.told c.either-short.result l.workers new.workers l.controllers new.controllers lt c.either-short.ensures moved.short moved.workers moved.controllers ∙ l.invariant.short;
      left = λ h. both_within n c.args.after l.workers new.workers l.controllers new.controllers (l.invariant.left h) lt moved.workers moved.controllers;
      workers = ap emptied moved.workers ∙ (emptied_map (past_entry n) _ ∙ (emptied_map (past_reads n) l.workers ∙ l.invariant.workers));
      controllers = ap emptied moved.controllers ∙ (emptied_map (past_entry n) _ ∙ (emptied_map (past_reads n) l.controllers ∙ l.invariant.controllers));
    }
