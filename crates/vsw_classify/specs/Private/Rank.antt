-- The order in which the rules of a group are tried.
use Rattle.std.specs.Prelude.{◌<◌, ◌+◌, ◌*◌, ◌%◌, ◌^◌, ℕ, List, [], ◌∷◌, length, Bool, false, Option, Some, None}
use Rattle.std.specs.List.{slice_get}
use Rattle.std.specs.List.Sorted.{IsPermutation, IsNonDecreasing}
use Rattle.vsw_base.specs.declared.header.Header.{Header}
use Rattle.vsw_rule.specs.declared.rule.Rule.{Rule}
use Rattle.vsw_rule.specs.Match.{matches}

-- a rule's priority, then its place
abbrev pub key : Rule → ℕ → ℕ
key r place = r.priority * 4294967296 + place

-- the keys of rules that stand from this place on
abbrev pub keys_from : ℕ → List Rule → List ℕ
keys_from place [] = []
keys_from place (r ∷ rs) = key r place ∷ keys_from (place + 1) rs

-- the keys of these rules, the least first
pub record IsRanked (rules : List Rule) (keys : List ℕ) : Type 0 where
  pub few : length keys < 2 ^ 32
  pub count : length rules < 2 ^ 32
  pub moved : IsPermutation (keys_from 0 rules) keys
  pub in_order : IsNonDecreasing keys

abbrev pub place_in : Option ℕ → Option ℕ
place_in None = None
place_in (Some key) = Some (key % 4294967296)

-- the place that the key at a rank leads to
abbrev pub place_at : List ℕ → ℕ → Option ℕ
place_at keys rank = place_in (slice_get keys rank)

abbrev pub rule_in : List Rule → Option ℕ → Option Rule
rule_in rules None = None
rule_in rules (Some place) = slice_get rules place

abbrev pub rule_at : List Rule → List ℕ → ℕ → Option Rule
rule_at rules keys rank = rule_in rules (place_at keys rank)

abbrev pub is_met : List Header → Option Rule → Bool
is_met hs None = false
is_met hs (Some r) = matches r hs

-- there is a rule at this rank, and it matches
abbrev pub meets_at : List Rule → List ℕ → List Header → ℕ → Bool
meets_at rules keys hs rank = is_met hs (rule_at rules keys rank)
