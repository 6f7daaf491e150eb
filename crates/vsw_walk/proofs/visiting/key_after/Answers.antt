use Rattle.std.proofs.Common.{◌∙◌, sym, ap}
use Rattle.vsw_rule.specs.Edit.{edited}
use Rattle.vsw_header.specs.Key.{key_from}
use Rattle.vsw_rule.specs.declared.rule.Action.{Action}
use Rattle.vsw_walk.proofs.visiting.key_after.Goals as goal

pub returns-in-Edit : goal.returns-in-Edit
returns-in-Edit c = c.key_of.ensures ∙ ap key_from (c.edit_stack.ensures ∙ sym (ap (λ (a : Action). edited a c.args.stack.now) c.in-Edit.is))
