use Rattle.std.proofs.Common.{◌≡◌, ◌∙◌, sym, subst, List, None}
use Rattle.vsw_rule.specs.declared.rule.Rule.{Rule}
use Rattle.vsw_policy.specs.declared.command.Command.TheVariants.{PutRules}
use Rattle.vsw_policy.specs.Obey.{tests, first_refusal}
use Rattle.vsw_promise.proofs.Groups.{rules-allowed}
use Rattle.vsw_promise.proofs.layers.put_rules.Goals as goal

pub obeyed-requires-clause-allowed : goal.obeyed-requires-clause-allowed
obeyed-requires-clause-allowed c =
    subst (λ (rs : List Rule). first_refusal (tests c.args.policy.now.layers c.args.controller (PutRules c.args.layer c.args.group.now.number rs)) ≡ None) (sym (c.in_ok-rules.ensures ∙ c.as_slice.ensures))
    (rules-allowed c.args.policy.now.layers c.args.controller c.args.layer c.args.group.now c.requires.there c.requires.has c.requires.good)
