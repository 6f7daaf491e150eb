use Rattle.std.proofs.Common.{sym, ap, ◌∙◌, not, option_copied}
use Rattle.vsw_layerflow.specs.Pairs.{of_rule, pair_of}
use Rattle.vsw_spares.proofs.Stayed.{drop_none}
use Rattle.vsw_spares.proofs.leaving.remove_rule_leaves.Goals as goal

pub returns-in-None : goal.returns-in-None
returns-in-None c e = drop_none c.args.look.now c.args.group c.args.rule c.args.layer.now.groups c.as_slice.result.now (pair_of c.args.look.now.dir c.args.look.now.key c.args.layer.now.flows.pairs) (λ p. not (of_rule c.args.group c.args.rule p)) c.rules_stay_dropping.result c.as_slice.ensures c.rules_stay_dropping.ensures (sym c.find.ensures ∙ ap option_copied c.in-None.is) e
