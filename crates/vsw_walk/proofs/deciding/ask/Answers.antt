use Rattle.std.proofs.Common.{sym, ap, ◌∙◌, option_map}
use Rattle.vsw_rule.specs.ChoiceSeen.{seen}
use Rattle.vsw_rule.specs.Edit.{goes_on}
use Rattle.vsw_rule.specs.declared.rule.Rule.{Rule}
use Rattle.vsw_rule.specs.Match.{can_do}
use Rattle.vsw_walk.proofs.Chosen.{chosen_can}
use Rattle.vsw_walk.proofs.deciding.ask.Goals as goal

pub returns-in-None-clause-goes_on : goal.returns-in-None-clause-goes_on
returns-in-None-clause-goes_on c = c.by_default.ensures.none (λ (r : Rule). goes_on r.action)

pub returns-in-None-clause-can : goal.returns-in-None-clause-can
returns-in-None-clause-can c = c.by_default.ensures.none (λ (r : Rule). can_do r.action c.args.stack.now)

pub returns-in-Some-clause-can : goal.returns-in-Some-clause-can
returns-in-Some-clause-can c = c.by_rule.ensures.can c.args.stack.now (chosen_can c.args.dir c.args.layer.now.groups c.args.stack.now _ (sym c.choose.ensures ∙ ap (option_map seen) c.in-Some.is))
