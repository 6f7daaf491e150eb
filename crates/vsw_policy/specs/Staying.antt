-- Which pairs stay where a group gets other rules.
use Rattle.std.specs.Prelude.{ℕ, ◌&&◌, ◌==◌, List, Bool, not, filter}
use Rattle.std.specs.List.{list_any}
use Rattle.vsw_layerflow.specs.declared.pair.Pair.{Pair}
use Rattle.vsw_layerflow.specs.Pairs.{of_rule}
use Rattle.vsw_rule.specs.declared.rule.Rule.{Rule}
use Rattle.vsw_rule.specs.contracts.rule.RulePartialEq.TheImpl as equal

-- equal in every field
abbrev pub same_rule : Rule → Rule → Bool
same_rule r s = equal.eq-value.it r s

-- the rule isn't among these
abbrev pub is_gone : List Rule → Rule → Bool
is_gone rs r = not (list_any (same_rule r) rs)

-- a pair of a group goes where a rule that made it isn't among the group's new ones
abbrev pub goes : ℕ → List Rule → List Rule → Pair → Bool
goes g old new p = list_any (λ r. is_gone new r && of_rule g r.number p) old

-- the pairs that stay where a group gets other rules
abbrev pub staying : ℕ → List Rule → List Rule → List Pair → List Pair
staying g old new ps = filter (λ p. not (goes g old new p)) ps

-- an old rule of this number isn't among the new ones
abbrev pub number_goes : List Rule → List Rule → ℕ → Bool
number_goes old new n = list_any (λ r. is_gone new r && n == r.number) old
