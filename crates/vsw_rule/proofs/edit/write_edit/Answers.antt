use Rattle.std.proofs.Common.{◌∙◌, sym, ap}
use Rattle.vsw_base.specs.Shape.{is_stack}
use Rattle.vsw_rule.proofs.Edited.{made_is}
use Rattle.vsw_rule.proofs.edit.write_edit.Goals as goal

pub returns : goal.returns
returns c =
    let shape = ap is_stack (sym c.headers.ensures.all) ∙ c.headers.ensures.shape in
    made_is c.args.decap c.args.set.now c.args.encap.now shape c.requires.can c.requires.empty c.pop.ensures c.push.ensures c.stay.ensures c.uncovered-headers.ensures c.headers.ensures.all c.from-outer.ensures c.encaps_left.ensures c.encaps.ensures.count
