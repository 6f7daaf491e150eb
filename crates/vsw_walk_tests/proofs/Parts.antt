-- The rules of several parts, one part's behind another's.
use Rattle.std.proofs.Common.{List, [], ◌∷◌, ◌++◌}
use Rattle.vsw_policy.specs.Sound.{Each, IsGoodRule}
use Rattle.vsw_rule.specs.declared.rule.Rule.{Rule}

pub good_joined : (rs qs : List Rule) → Each IsGoodRule rs → Each IsGoodRule qs → Each IsGoodRule (rs ++ qs)
good_joined [] qs h i = i
good_joined (r ∷ rs) qs h i = (h.0, good_joined rs qs h.1 i)
