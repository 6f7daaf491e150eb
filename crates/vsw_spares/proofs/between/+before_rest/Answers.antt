use Rattle.std.proofs.Common.{sym, ◌∙◌}
use Rattle.vsw_spares.proofs.Betweens.{all_between, more_rest}
use Rattle.vsw_spares.proofs.between.+before_rest.Goals as goal

pub returns-in_default : goal.returns-in_default
returns-in_default t c = all_between c.args.old.now c.args.new.now

pub returns-in_default-split_last : goal.returns-in_default-split_last
returns-in_default-split_last t c = all_between c.args.old.now c.args.new.now

pub returns-then-is_same : goal.returns-then-is_same
returns-then-is_same t c =
    more_rest c.args.old.now c.args.new.now c.in-Some.front.now c.in-Some-split_last.beside.now c.before_rest.result.old.now c.before_rest.result.new.now c.in-Some.last.now c.in-Some-split_last.other.now c.in-Some.ensures.cases.0 c.in-Some-split_last.ensures.cases.0
    (sym c.is_same.ensures ∙ c.if-is_same.true) c.before_rest.ensures

pub returns-else-is_same : goal.returns-else-is_same
returns-else-is_same t c = all_between c.args.old.now c.args.new.now
