use Rattle.std.proofs.Common.{◌∙◌, sym}
use Rattle.vsw_rule.proofs.FromEnd.{choose_is, none_asked}
use Rattle.vsw_rule.proofs.choice.choose.Goals as goal

pub returns-then-count-eq0 : goal.returns-then-count-eq0
returns-then-count-eq0 c =
    sym (choose_is c.args.dir c.args.groups.now c.args.stack.now ∙ none_asked c.asked-count.result c.args.dir c.args.groups.now c.args.stack.now c.if-count-eq0.true (c.asked-count.ensures.rest c.args.stack.now))

pub returns : goal.returns
returns c = c.choose_among.ensures ∙ sym (choose_is c.args.dir c.args.groups.now c.args.stack.now)
