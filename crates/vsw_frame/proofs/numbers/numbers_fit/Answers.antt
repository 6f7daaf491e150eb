use Rattle.std.proofs.Common.{◌≡◌, ◌∙◌, List, true, sym, ap, subst}
use Rattle.vsw_transpose.specs.declared.act.Act.{Act}
use Rattle.vsw_transpose.specs.Form.{is_form}
use Rattle.vsw_frame.specs.Numbers.{AreActsOfTypes}
use Rattle.vsw_frame.proofs.Bounded.{form_fits}
use Rattle.vsw_frame.proofs.numbers.numbers_fit.Goals as goal

pub returns : goal.returns
returns c =
    let xs : List Act = c.args.by.now in
    let form : is_form xs ≡ true = ap is_form (sym c.acts.ensures.all) ∙ c.acts.ensures.form in
    form_fits xs form (subst AreActsOfTypes c.acts.ensures.all c.acts_fit.ensures)
