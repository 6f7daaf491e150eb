-- The groups of a layer and the rules of a group: what names one, and what is changed of them.
use Rattle.std.specs.Prelude.{ℕ, ◌==◌, ◌||◌, List, [], ◌∷◌, ◌++◌, Bool, false, Option, Some, None, if◌then◌else◌}
use Rattle.std.specs.List.{find, list_any}
use Rattle.vsw_rule.specs.declared.rule.Group.{Group}
use Rattle.vsw_rule.specs.declared.rule.Rule.{Rule}

-- the group, the rule of this name
abbrev pub is_group : ℕ → Group → Bool
is_group n g = n == g.number

-- the rule of this number
abbrev pub is_rule : ℕ → Rule → Bool
is_rule n r = n == r.number

-- the first element that passes is changed, or goes, and the others stay
abbrev pub changed : {A : Type 0} → (A → Bool) → (A → A) → List A → List A
changed p f [] = []
changed p f (x ∷ xs) = if p x then f x ∷ xs else x ∷ changed p f xs

-- the first element that passes goes
abbrev pub removed : {A : Type 0} → (A → Bool) → List A → List A
removed p [] = []
removed p (x ∷ xs) = if p x then xs else x ∷ removed p xs

-- the rules of a group; none where there is no such group
abbrev pub rules_of : Option Group → List Rule
rules_of None = []
rules_of (Some g) = g.rules

-- the rules of the group of a number
abbrev pub rules_in : List Group → ℕ → List Rule
rules_in gs g = rules_of (find (is_group g) gs)

-- two rules have one number
abbrev pub has_twice : List Rule → Bool
has_twice [] = false
has_twice (r ∷ rs) = list_any (is_rule r.number) rs || has_twice rs

-- a group with other rules
abbrev pub with_rules : List Rule → Group → Group
with_rules rs g = record { number = g.number; dir = g.dir; when = g.when; rules = rs }

-- a group with one rule more
abbrev pub with_rule : Rule → Group → Group
with_rule r g = with_rules (g.rules ++ r ∷ []) g

-- a group without the rule of a number
abbrev pub without_rule : ℕ → Group → Group
without_rule k g = with_rules (removed (is_rule k) g.rules) g
