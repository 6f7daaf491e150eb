use Rattle.std.proofs.Common.{sym, ap, ◌∙◌, not, option_copied, []}
use Rattle.vsw_layerflow.specs.Pairs.{pair_of}
use Rattle.vsw_policy.specs.Groups.{rules_in}
use Rattle.vsw_policy.specs.Staying.{goes}
use Rattle.vsw_spares.specs.Spared.{all_same}
use Rattle.vsw_spares.proofs.Stayed.{clear_none, other_found}
use Rattle.vsw_spares.proofs.leaving.remove_group_leaves.Goals as goal

pub returns-in-Some : goal.returns-in-Some
returns-in-Some c e = other_found (pair_of c.args.look.now.dir c.args.look.now.key c.args.layer.now.flows.pairs) c.in-Some.pair.now c.args.group (rules_in c.args.layer.now.groups c.args.group) [] (all_same c.args.look.now c.args.group (λ h. []) c.args.layer.now.groups) (sym c.find.ensures ∙ ap option_copied c.in-Some.is) e

pub returns-in-None : goal.returns-in-None
returns-in-None c e = clear_none c.args.look.now c.args.group c.args.layer.now.groups c.as_slice.result.now (pair_of c.args.look.now.dir c.args.look.now.key c.args.layer.now.flows.pairs) (λ p. not (goes c.args.group (rules_in c.args.layer.now.groups c.args.group) [] p)) c.rules_stay_clearing.result c.as_slice.ensures c.rules_stay_clearing.ensures (sym c.find.ensures ∙ ap option_copied c.in-None.is) e
