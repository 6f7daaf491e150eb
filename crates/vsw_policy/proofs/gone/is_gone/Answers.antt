use Rattle.std.proofs.Common.{rules, tests, ap, not}
use Rattle.std.proofs.lemmas.Iterator.{YieldsList-from_slice}
use Rattle.std.proofs.lemmas.Iterator.Search.{any_from_yields_List}
use Rattle.vsw_policy.specs.Staying.{same_rule}
use Rattle.vsw_policy.proofs.gone.is_gone.Goals as goal

pub returns : goal.returns
returns c = ap not (any_from_yields_List (same_rule c.args.rule.now) _ _ c.any.result c.any.ensures.ran (YieldsList-from_slice c.args.rules.now cc) (λ x b q k. search (rules, tests)))
