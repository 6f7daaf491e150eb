use Rattle.std.proofs.Common.{◌∙◌, ◌-◌, rules, length, take, drop, List, sym, subst, ap}
use Rattle.vsw_rule.specs.declared.rule.Group.{Group}
use Rattle.vsw_policy.specs.Groups.{changed}
use Rattle.vsw_policy.proofs.LayerFirsts.{on_ok}
use Rattle.vsw_policy.specs.Layers.{is_layer}
use Rattle.vsw_promise.specs.Groups.{with_groups, AdmitsAll}
use Rattle.vsw_promise.proofs.Groups.{admits-first, admits-rest, groups-none, groups-more}
use Rattle.vsw_promise.proofs.Slices.{no-first, first-rest, fewer}
use Rattle.vsw_promise.proofs.layers.+add_groups.Goals as goal

pub add_group-requires : goal.add_group-requires
add_group-requires t c =
    let gs : List Group = c.args.groups.now in
    let e = first-rest gs c.first-item.result c.in-len1-up.len_at_least c.first-item.is in
    admits-first c.args.policy.now.controllers c.args.policy.now.layers c.args.controller c.args.layer c.first-item.result (take (length gs - 1) (drop 1 gs))
    (subst (λ xs. AdmitsAll c.args.policy.now.controllers c.args.policy.now.layers c.args.controller c.args.layer xs) e c.requires)

pub add_groups-requires : goal.add_groups-requires
add_groups-requires t c =
    let gs : List Group = c.args.groups.now in
    let e = first-rest gs c.first-item.result c.in-len1-up.len_at_least c.first-item.is in
    let less = fewer gs c.in-len1-up.len_at_least in
    let all = subst (λ xs. AdmitsAll c.args.policy.now.controllers c.args.policy.now.layers c.args.controller c.args.layer xs) e c.requires in
    (search (rules, less), admits-rest c.args.policy.now.controllers c.add_group.new.policy.controllers c.args.policy.now.layers c.add_group.new.policy.layers c.args.controller c.args.layer c.first-item.result (take (length gs - 1) (drop 1 gs)) all c.in_ok-add_group-in-len1-up.ensures.controllers c.in_ok-add_group-in-len1-up.ensures.ok)

pub returns-in-empty-clause-ok : goal.returns-in-empty-clause-ok
returns-in-empty-clause-ok t c =
    let ls = c.args.policy.now.layers in
    sym (ap (λ gs. changed (is_layer c.args.controller c.args.layer) (with_groups gs) ls) (no-first c.args.groups.now c.in-empty.len_below) ∙ groups-none ls c.args.controller c.args.layer)

pub returns-in_ok-add_group-in-len1-up-clause-ok : goal.returns-in_ok-add_group-in-len1-up-clause-ok
returns-in_ok-add_group-in-len1-up-clause-ok t c =
    let gs : List Group = c.args.groups.now in
    let rest : List Group = take (length gs - 1) (drop 1 gs) in
    let ls = c.args.policy.now.layers in
    let e = first-rest gs c.first-item.result c.in-len1-up.len_at_least c.first-item.is in
    on_ok c.add_groups.result
    (λ i. groups-more ls c.add_group.new.policy.layers c.add_groups.new.policy.layers c.args.controller c.args.layer c.first-item.result rest c.in_ok-add_group-in-len1-up.ensures.ok i ∙ ap (λ xs. changed (is_layer c.args.controller c.args.layer) (with_groups xs) ls) (sym e))
    c.add_groups.ensures.ok
