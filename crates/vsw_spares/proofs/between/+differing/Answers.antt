use Rattle.std.proofs.Common.{sym, ◌∙◌}
use Rattle.vsw_spares.proofs.Betweens.{all_between, more_front}
use Rattle.vsw_spares.proofs.between.+differing.Goals as goal

pub returns-in_default : goal.returns-in_default
returns-in_default t c = all_between c.args.old.now c.args.new.now

pub returns-in_default-split_first : goal.returns-in_default-split_first
returns-in_default-split_first t c = all_between c.args.old.now c.args.new.now

pub returns-then-is_same : goal.returns-then-is_same
returns-then-is_same t c =
    more_front c.args.old.now c.args.new.now c.in-Some.rest.now c.in-Some-split_first.beside.now c.differing.result.old.now c.differing.result.new.now c.in-Some.first.now c.in-Some-split_first.other.now c.in-Some.ensures.cases.0 c.in-Some-split_first.ensures.cases.0
    (sym c.is_same.ensures ∙ c.if-is_same.true) c.differing.ensures
