-- One rule of a group added or taken, as other rules of the group.
use Rattle.std.proofs.Common.{◌≡◌, ℕ, List, [], ◌∷◌, ◌++◌, refl}
use Rattle.vsw_rule.specs.declared.rule.Rule.{Rule}
use Rattle.vsw_rule.specs.declared.rule.Group.{Group}
use Rattle.vsw_classify.specs.Groups.{is_group, is_rule, changed, removed, rules_in, with_rules, with_rule, without_rule}
use Rattle.vsw_classify.proofs.Firsts.{changed-as}

pub rule_added : (g : ℕ) (r : Rule) (gs : List Group) → changed (is_group g) (with_rules (rules_in gs g ++ r ∷ [])) gs ≡ changed (is_group g) (with_rule r) gs
rule_added g r gs = changed-as (is_group g) (with_rules (rules_in gs g ++ r ∷ [])) (with_rule r) gs (λ x e. rw e refl)

pub rule_removed : (g k : ℕ) (gs : List Group) → changed (is_group g) (with_rules (removed (is_rule k) (rules_in gs g))) gs ≡ changed (is_group g) (without_rule k) gs
rule_removed g k gs = changed-as (is_group g) (with_rules (removed (is_rule k) (rules_in gs g))) (without_rule k) gs (λ x e. rw e refl)
