use Rattle.vsw_layerflow.specs.Pairs.{pair_of}
use Rattle.vsw_spares.proofs.Stayed.{add_stays}
use Rattle.vsw_spares.proofs.leaving.add_rule_leaves.Goals as goal

pub returns-then-rules_stay_adding : goal.returns-then-rules_stay_adding
returns-then-rules_stay_adding c e = add_stays c.args.look.now c.args.group c.args.rule.now c.args.layer.now.groups c.as_slice.result.now (pair_of c.args.look.now.dir c.args.look.now.key c.args.layer.now.flows.pairs) c.rules_stay_adding.result c.as_slice.ensures c.rules_stay_adding.ensures c.if-rules_stay_adding.true
