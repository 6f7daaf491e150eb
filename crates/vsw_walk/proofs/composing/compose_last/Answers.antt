use Rattle.std.proofs.Common.{◌∙◌, sym, ap}
use Rattle.vsw_rule.specs.Edit.{edited}
use Rattle.vsw_transpose.specs.Apply.{apply}
use Rattle.vsw_walk.proofs.Goes.{alike_itself, kept_on}
use Rattle.vsw_walk.proofs.composing.compose_last.Goals as goal

pub returns-clause-made : goal.returns-clause-made
returns-clause-made c =
    c.compose_to.ensures.law c.args.first.now (alike_itself c.args.first.now) ∙ ap (apply c.act_to.new.out) (sym c.apply_to.ensures)
    ∙ c.act_to.ensures.edit ∙ ap (edited c.args.action.now) c.apply_to.ensures

pub returns-clause-left : goal.returns-clause-left
returns-clause-left c =
    kept_on c.args.action.now c.args.first.now c.apply_to.new.out c.headers.result.now c.args.by.now c.acts.result.now c.act_to.new.out c.compose_to.new.out
    c.headers.ensures.all c.headers.ensures.shape c.acts.ensures.all c.acts.ensures.form c.requires.fits c.apply_to.ensures c.requires.can c.act_to.ensures.kept c.compose_to.ensures.kept
