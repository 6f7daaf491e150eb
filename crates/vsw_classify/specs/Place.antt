-- The place in a group of its pick.
use Rattle.std.specs.Prelude.{◌≡◌, ◌≤◌, ℕ, List, true, Option, Some, None, map}
use Rattle.std.specs.List.{slice_get}
use Rattle.vsw_base.specs.declared.header.Header.{Header}
use Rattle.vsw_rule.specs.Choice.{NoneMatches}
use Rattle.vsw_rule.specs.declared.rule.Rule.{Rule}
use Rattle.vsw_rule.specs.declared.rule.Group.{Group}
use Rattle.vsw_rule.specs.Match.{matches}

-- a rule goes before another by lesser priority, and of two equals by lesser place
abbrev pub GoesBefore : Rule → ℕ → Rule → ℕ → Type 0
GoesBefore r i s j = (r.priority ≤ s.priority) × (r.priority ≡ s.priority → i ≤ j)

-- the rule at this place matches, and no rule that matches goes before it
pub record IsPickAt (rules : List Rule) (hs : List Header) (place : ℕ) : Type 0 where
  pub rule : Rule
  pub stands : slice_get rules place ≡ Some rule
  pub meets : matches rule hs ≡ true
  pub first : (j : ℕ) (s : Rule) → slice_get rules j ≡ Some s → matches s hs ≡ true → GoesBefore rule place s j

-- where a group's pick is, and that there is none exactly where no rule matches
abbrev pub PicksAt : List Rule → List Header → Option ℕ → Type 0
PicksAt rules hs None = NoneMatches rules hs
PicksAt rules hs (Some place) = IsPickAt rules hs place

-- the rule at a place
abbrev pub at_place : List Rule → Option ℕ → Option Rule
at_place rules None = None
at_place rules (Some place) = slice_get rules place

abbrev pub rules_of : Group → List Rule
rules_of g = g.rules

-- each index was built of the group at its place
abbrev pub AreBuiltOf : List Group → List (List Rule) → Type 0
AreBuiltOf groups indexes = map rules_of groups ≡ indexes
