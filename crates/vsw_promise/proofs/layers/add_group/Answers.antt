use Rattle.std.proofs.Common.{ap, ◌∙◌, [], ◌∷◌}
use Rattle.std.specs.List.{list_any}
use Rattle.vsw_policy.specs.Groups.{changed, is_group, with_rules}
use Rattle.vsw_policy.proofs.LayerFirsts.{on_ok}
use Rattle.vsw_policy.specs.declared.command.Command.TheVariants.{PutRules}
use Rattle.vsw_policy.specs.Layers.{is_layer}
use Rattle.vsw_policy.specs.Obey.{groups_in, within}
use Rattle.vsw_promise.proofs.Groups.{there-after, has-after, group-added}
use Rattle.vsw_promise.proofs.layers.add_group.Goals as goal

pub put_rules-requires-clause-there : goal.put_rules-requires-clause-there
put_rules-requires-clause-there c =
    ap (λ ls. list_any (is_layer c.args.controller c.args.layer) ls) c.in_ok-add_empty.ensures.ok
    ∙ there-after c.args.policy.now.layers c.args.controller c.args.layer (with_rules [] c.args.group.now ∷ []) c.requires.there

pub put_rules-requires-clause-has : goal.put_rules-requires-clause-has
put_rules-requires-clause-has c =
    ap (λ ls. list_any (is_group c.args.group.now.number) (groups_in ls c.args.controller c.args.layer)) c.in_ok-add_empty.ensures.ok
    ∙ has-after c.args.policy.now.layers c.args.controller c.args.layer c.args.group.now c.requires.there

pub returns-clause-ok : goal.returns-clause-ok
returns-clause-ok c =
    let added = group-added c.args.policy.now.controllers c.args.policy.now.layers c.args.controller c.args.layer c.args.group.now c.requires in
    on_ok c.put_rules.result
    (λ e. e ∙ ap (λ ls. changed (is_layer c.args.controller c.args.layer) (within (PutRules c.args.layer c.args.group.now.number c.args.group.now.rules)) ls) c.in_ok-add_empty.ensures.ok ∙ added)
    c.put_rules.ensures.ok
