use Rattle.std.proofs.Common.{sym, ap, ◌∙◌, option_copied}
use Rattle.vsw_layerflow.specs.Pairs.{pair_of}
use Rattle.vsw_policy.specs.Groups.{rules_in}
use Rattle.vsw_spares.specs.Spared.{all_same}
use Rattle.vsw_spares.proofs.Stayed.{other_found, unnamed_found}
use Rattle.vsw_spares.proofs.leaving.put_rules_leaves.Goals as goal

pub returns-then-pair-group : goal.returns-then-pair-group
returns-then-pair-group c e =
    other_found (pair_of c.args.look.now.dir c.args.look.now.key c.args.layer.now.flows.pairs) c.in-Some.pair.now c.args.group (rules_in c.args.layer.now.groups c.args.group) c.args.rules.now (all_same c.args.look.now c.args.group (λ h. c.args.rules.now) c.args.layer.now.groups)
    (sym c.find.ensures ∙ ap option_copied c.in-Some.is) e

pub returns-else-pair-group : goal.returns-else-pair-group
returns-else-pair-group c e =
    unnamed_found (pair_of c.args.look.now.dir c.args.look.now.key c.args.layer.now.flows.pairs) c.in-Some.pair.now c.args.group (rules_in c.args.layer.now.groups c.args.group) c.args.rules.now c.args.between.now.old.now c.args.between.now.new.now
    (all_same c.args.look.now c.args.group (λ h. c.args.rules.now) c.args.layer.now.groups) c.has_number.result c.requires (sym c.find.ensures ∙ ap option_copied c.in-Some.is) c.has_number.ensures e
