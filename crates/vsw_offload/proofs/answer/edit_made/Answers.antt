use Rattle.std.proofs.Common.{ap, sym, ◌∙◌, refl}
use Rattle.vsw_base.specs.Shape.{is_stack}
use Rattle.vsw_frame.specs.Frame.{parts}
use Rattle.vsw_offload.proofs.Giving.{edited_by}
use Rattle.vsw_offload.proofs.answer.edit_made.Goals as goal

pub edited_to-requires-clause-edit : goal.edited_to-requires-clause-edit
edited_to-requires-clause-edit c =
    let (by, until, are, fit) = c.requires.body in
    let hs = (parts c.args.frame.now).stack in
    let shape = ap is_stack (sym c.stack.ensures ∙ sym c.headers.ensures.all) ∙ c.headers.ensures.shape in
    edited_by by hs hs c.args.made.now c.kept_by-kept.result are.0.form shape fit refl (c.requires.made by until are) (c.kept_by-kept.ensures by until are fit)
