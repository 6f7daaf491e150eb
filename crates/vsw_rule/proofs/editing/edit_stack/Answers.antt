use Rattle.std.proofs.Common.{◌∙◌, sym, ap}
use Rattle.vsw_base.specs.Shape.{is_stack}
use Rattle.vsw_rule.proofs.Edited.{edited_stack}
use Rattle.vsw_rule.proofs.editing.edit_stack.Goals as goal

pub rewrite-requires-clause-shape : goal.rewrite-requires-clause-shape
rewrite-requires-clause-shape c =
    edited_stack c.args.decap c.args.set.now c.args.encap.now c.args.stack.now (ap is_stack (sym c.headers.ensures.all) ∙ c.headers.ensures.shape) c.requires.can
