use Rattle.std.proofs.Common.{◌∙◌, sym, ap, subst, List}
use Rattle.vsw_base.specs.Shape.{is_stack}
use Rattle.vsw_transpose.specs.declared.act.Act.{Act}
use Rattle.vsw_rule.specs.Edits.{Edits}
use Rattle.vsw_rule.proofs.EditAlike.{edits}
use Rattle.vsw_rule.proofs.edit.edit_to.Goals as goal

pub rewrite-requires : goal.rewrite-requires
rewrite-requires c =
    let shape = ap is_stack (sym c.headers.ensures.all) ∙ c.headers.ensures.shape in
    record { ready = c.requires.can; form = (edits c.args.decap c.args.set.now c.args.encap.now c.args.stack.now shape c.requires.can).form }

pub returns : goal.returns
returns c =
    let shape = ap is_stack (sym c.headers.ensures.all) ∙ c.headers.ensures.shape in
    let P : List Act → Type 0 = λ l. Edits c.args.decap c.args.set.now c.args.encap.now l c.args.stack.now in
    subst P (sym c.rewrite.ensures) (edits c.args.decap c.args.set.now c.args.encap.now c.args.stack.now shape c.requires.can)
