use Rattle.std.proofs.Common.{◌≡◌, ◌∙◌, sym, subst}
use Rattle.std.specs.Prelude.{IfOk}
use Rattle.vsw_classify.specs.Groups.{is_rule}
use Rattle.vsw_classify.proofs.Firsts.{removed-none, removed-at, but-one}
use Rattle.vsw_classify.proofs.copies.copy_without.Goals as goal

pub returns-in_default : goal.returns-in_default
returns-in_default c =
    let none = removed-none (is_rule c.args.number) c.args.rules.now (sym c.rule_place.ensures ∙ c.in_default.is) in
    subst (λ rs. IfOk c.copy_rules.result (λ copy. copy ≡ rs)) (sym none) c.copy_rules.ensures

pub returns : goal.returns
returns c =
    rw c.in_ok-copies.ensures at c.in_ok-push_copies.ensures
    ∙ but-one c.args.rules.now c.in-Some.place
    ∙ removed-at (is_rule c.args.number) c.args.rules.now c.in-Some.place (sym c.rule_place.ensures ∙ c.in-Some.is)
