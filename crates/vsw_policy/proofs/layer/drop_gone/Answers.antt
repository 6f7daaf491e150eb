use Rattle.std.proofs.Common.{◌∙◌, sym}
use Rattle.vsw_policy.proofs.Stays.{staying-all, staying-marked}
use Rattle.vsw_policy.proofs.layer.drop_gone.Goals as goal

pub returns-then-mark_gone : goal.returns-then-mark_gone
returns-then-mark_gone c = c.drop_marked.ensures.gone ∙ staying-marked c.args.group c.args.old.now c.args.new.now _ c.args.flows.now.pairs c.mark_gone.ensures.marked

pub returns-else-mark_gone : goal.returns-else-mark_gone
returns-else-mark_gone c = sym (staying-all c.args.group c.args.old.now c.args.new.now c.args.flows.now.pairs (sym c.mark_gone.ensures.any ∙ c.if-mark_gone.false))
