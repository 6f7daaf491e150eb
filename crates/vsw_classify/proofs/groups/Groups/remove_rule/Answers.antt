use Rattle.std.proofs.Common.{◌∙◌, ap}
use Rattle.vsw_classify.specs.Groups.{is_group, is_rule, changed, removed, rules_in, with_rules}
use Rattle.vsw_classify.proofs.Ruled.{rule_removed}
use Rattle.vsw_classify.proofs.groups.Groups.remove_rule.Goals as goal

pub returns-clause-ok : goal.returns-clause-ok
returns-clause-ok c =
    let old = c.rules_in.ensures ∙ ap (λ gs. rules_in gs c.args.group) (c.deref.ensures.value ∙ c.self.view_is) in
    let rules = c.in_ok-rules.ensures ∙ c.in_ok-copies.ensures ∙ ap (removed (is_rule c.args.number)) old in
    c.put_rules.ensures
    ∙ ap (λ rs. changed (is_group c.args.group) (with_rules rs) c.args.self.now) rules
    ∙ rule_removed c.args.group c.args.number c.args.self.now
