use Rattle.std.proofs.Common.{sym}
use Rattle.vsw_classify.specs.Private.Entry.{IsCovered}
use Rattle.vsw_classify.proofs.Gathered.{one_more}
use Rattle.vsw_classify.proofs.entry.gather.Goals as goal

pub loop-rank-preserved : goal.loop-rank-preserved
loop-rank-preserved c =
    let s = c.in_ok-enter_at.ensures c.args.rules.now c.args.keys.now (sym c.rule_at-rule.ensures) in
    record {
      rises = s.rises c.loop-rank.invariant.below c.loop-rank.invariant.rises;
      below = s.below c.loop-rank.invariant.below;
      covers = one_more (IsCovered c.args.rules.now c.args.keys.now c.loop-rank.listed.items c.loop-rank.entries.items) (IsCovered c.args.rules.now c.args.keys.now c.enter_at.new.listed.items c.enter_at.new.entries.items) c.loop-rank.rank s.kept s.covers c.loop-rank.invariant.covers;
    }
