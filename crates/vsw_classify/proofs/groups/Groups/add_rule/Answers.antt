use Rattle.std.proofs.Common.{◌∙◌, [], ◌∷◌, ◌++◌, ap}
use Rattle.vsw_classify.specs.Groups.{is_group, changed, rules_in, with_rules}
use Rattle.vsw_classify.proofs.Ruled.{rule_added}
use Rattle.vsw_classify.proofs.groups.Groups.add_rule.Goals as goal

pub returns-clause-ok : goal.returns-clause-ok
returns-clause-ok c =
    let old = c.rules_in.ensures ∙ ap (λ gs. rules_in gs c.args.group) (c.deref.ensures.value ∙ c.self.view_is) in
    let rules = c.in_ok-rules.ensures ∙ c.in_ok-copies.ensures ∙ ap (λ rs. rs ++ c.args.rule.now ∷ []) old in
    c.put_rules.ensures
    ∙ ap (λ rs. changed (is_group c.args.group) (with_rules rs) c.args.self.now) rules
    ∙ rule_added c.args.group c.args.rule.now c.args.self.now
