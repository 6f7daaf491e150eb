-- What a controller's command answers, and the layers after it.
use Rattle.std.specs.Prelude.{ℕ, List, [], ◌∷◌, ◌++◌, ◌==◌, ◌&&◌, ◌||◌, Bool, true, false, not, flat_map, nat_le, nat_lt, filter, length, Option, Some, None, Result, Ok, Err, if◌then◌else◌}
use Rattle.std.specs.List.{find, list_any}
use Rattle.vsw_layerflow.specs.Pairs.{of_rule}
use Rattle.vsw_layerflow.specs.Life.{is_over}
use Rattle.vsw_rule.specs.declared.rule.Group.{Group}
use Rattle.vsw_rule.specs.declared.rule.Rule.{Rule}
use Rattle.vsw_policy.specs.declared.layer.LayerSpec.{LayerSpec}
use Rattle.vsw_policy.specs.Groups.{is_group, is_rule, changed, removed, rules_in, has_twice, with_rules, with_rule, without_rule}
use Rattle.vsw_policy.specs.Layer.{LayerSeen, with_spec, with_parts, defaulting}
use Rattle.vsw_policy.specs.Staying.{staying}
use Rattle.vsw_policy.specs.declared.command.Command.{Command}
use Rattle.vsw_policy.specs.declared.command.Part.{Part}
use Rattle.vsw_policy.specs.declared.command.Command.TheVariants.{AddLayer, RemoveLayer, AddGroup, RemoveGroup, PutRules, PutMany, AddRule, RemoveRule, SetDefault, Sweep}
use Rattle.vsw_policy.specs.declared.refusal.Refusal.{Refusal}
use Rattle.vsw_policy.specs.declared.refusal.Refusal.TheVariants.{NoLayer, LayerExists, NoGroup, GroupExists, NoRule, RuleExists, ManyLayers, ManyGroups, ManyRules, Memory, ManyParts, PartTwice}
use Rattle.vsw_policy.specs.Layers.{is_of, is_layer, is_before}

-- the groups of a layer; none where there is no such layer
abbrev pub groups_of : Option LayerSeen → List Group
groups_of None = []
groups_of (Some l) = l.groups

-- the groups of the controller's layer of a number
abbrev pub groups_in : List LayerSeen → ℕ → ℕ → List Group
groups_in ls c n = groups_of (find (is_layer c n) ls)

-- what a command is refused for, in the order of the tests
abbrev pub no_layer : List LayerSeen → ℕ → ℕ → Bool × Refusal
no_layer ls c n = (not (list_any (is_layer c n) ls), NoLayer)

-- there is no such group
abbrev pub no_group : List LayerSeen → ℕ → ℕ → ℕ → Bool × Refusal
no_group ls c n g = (not (list_any (is_group g) (groups_in ls c n)), NoGroup)

-- what a part is refused for, as it would be alone
abbrev pub lacks_layer : List LayerSeen → ℕ → Part → Bool
lacks_layer ls c p = (no_layer ls c p.layer).0

-- there is no group of the part
abbrev pub lacks_group : List LayerSeen → ℕ → Part → Bool
lacks_group ls c p = (no_group ls c p.layer p.group).0

-- two rules of the part have one number
abbrev pub repeats_rule : Part → Bool
repeats_rule p = has_twice p.rules

-- the part has more than 1,024 rules
abbrev pub exceeds_rules : Part → Bool
exceeds_rules p = nat_lt 1024 (length p.rules)

-- parts of one group
abbrev pub same_part : Part → Part → Bool
same_part p q = (p.layer == q.layer) && (p.group == q.group)

-- two parts are of one group
abbrev pub has_part_twice : List Part → Bool
has_part_twice [] = false
has_part_twice (p ∷ ps) = list_any (same_part p) ps || has_part_twice ps

-- each command's tests, the first first
abbrev pub tests : List LayerSeen → ℕ → Command → List (Bool × Refusal)
tests ls c (AddLayer s) = (list_any (is_layer c s.layer) ls, LayerExists) ∷ (nat_le 16 (length (filter (is_of c) ls)), ManyLayers) ∷ []
tests ls c (RemoveLayer n) = no_layer ls c n ∷ []
tests ls c (AddGroup n g dir when) = no_layer ls c n ∷ (list_any (is_group g) (groups_in ls c n), GroupExists) ∷ (nat_le 32 (length (groups_in ls c n)), ManyGroups) ∷ []
tests ls c (RemoveGroup n g) = no_layer ls c n ∷ no_group ls c n g ∷ []
tests ls c (PutRules n g rs) = no_layer ls c n ∷ no_group ls c n g ∷ (has_twice rs, RuleExists) ∷ (nat_lt 1024 (length rs), ManyRules) ∷ []
tests ls c (PutMany ps) = (list_any (lacks_layer ls c) ps, NoLayer) ∷ (list_any (lacks_group ls c) ps, NoGroup) ∷ (list_any repeats_rule ps, RuleExists) ∷ (list_any exceeds_rules ps, ManyRules) ∷ (nat_lt 32 (length ps), ManyParts) ∷ (has_part_twice ps, PartTwice) ∷ []
tests ls c (AddRule n g r) = no_layer ls c n ∷ no_group ls c n g ∷ (list_any (is_rule r.number) (rules_in (groups_in ls c n) g), RuleExists) ∷ (nat_le 1024 (length (rules_in (groups_in ls c n) g)), ManyRules) ∷ []
tests ls c (RemoveRule n g k) = no_layer ls c n ∷ no_group ls c n g ∷ (not (list_any (is_rule k) (rules_in (groups_in ls c n) g)), NoRule) ∷ []
tests ls c (SetDefault n dir allow) = no_layer ls c n ∷ []
tests ls c (Sweep n now) = no_layer ls c n ∷ []

-- a layer behind those that don't come after it
abbrev pub placed : List ℕ → LayerSeen → List LayerSeen → List LayerSeen
placed cs l [] = l ∷ []
placed cs l (m ∷ ms) = if is_before cs l m then l ∷ m ∷ ms else m ∷ placed cs l ms

-- a layer without groups and pairs
abbrev pub empty_layer : ℕ → LayerSpec → LayerSeen
empty_layer c s = record { controller = c; spec = s; groups = []; pairs = []; next_pair = 0 }

-- what a command makes of the layer that it names; one that adds or removes the layer, or names several, changes nothing here
abbrev pub within : Command → LayerSeen → LayerSeen
within (AddLayer s) l = l
within (RemoveLayer n) l = l
within (AddGroup n g dir when) l = with_parts (l.groups ++ record { number = g; dir = dir; when = when; rules = [] } ∷ []) l.pairs l
within (RemoveGroup n g) l = with_parts (removed (is_group g) l.groups) (staying g (rules_in l.groups g) [] l.pairs) l
within (PutRules n g rs) l = with_parts (changed (is_group g) (with_rules rs) l.groups) (staying g (rules_in l.groups g) rs l.pairs) l
within (PutMany ps) l = l
within (AddRule n g r) l = with_parts (changed (is_group g) (with_rule r) l.groups) l.pairs l
within (RemoveRule n g k) l = with_parts (changed (is_group g) (without_rule k) l.groups) (filter (λ p. not (of_rule g k p)) l.pairs) l
within (SetDefault n dir allow) l = with_spec (defaulting dir allow l.spec) l
within (Sweep n now) l = with_parts l.groups (filter (λ p. not (is_over now l.spec.idle l.spec.linger p)) l.pairs) l

-- the layers after other rules were put into one group, and into each of several: no two parts are of one group, so their order is of no matter
abbrev pub put_part : ℕ → Part → List LayerSeen → List LayerSeen
put_part c p ls = changed (is_layer c p.layer) (within (PutRules p.layer p.group p.rules)) ls

-- each part put in turn
abbrev pub put_parts : ℕ → List Part → List LayerSeen → List LayerSeen
put_parts c [] ls = ls
put_parts c (p ∷ ps) ls = put_parts c ps (put_part c p ls)

-- the layers after a command that isn't refused: one more, one less, or others in place of those that it names
abbrev pub after : List ℕ → List LayerSeen → ℕ → Command → List LayerSeen
after cs ls c (AddLayer s) = placed cs (empty_layer c s) ls
after cs ls c (RemoveLayer n) = removed (is_layer c n) ls
after cs ls c (AddGroup n g dir when) = changed (is_layer c n) (within (AddGroup n g dir when)) ls
after cs ls c (RemoveGroup n g) = changed (is_layer c n) (within (RemoveGroup n g)) ls
after cs ls c (PutRules n g rs) = changed (is_layer c n) (within (PutRules n g rs)) ls
after cs ls c (PutMany ps) = put_parts c ps ls
after cs ls c (AddRule n g r) = changed (is_layer c n) (within (AddRule n g r)) ls
after cs ls c (RemoveRule n g k) = changed (is_layer c n) (within (RemoveRule n g k)) ls
after cs ls c (SetDefault n dir allow) = changed (is_layer c n) (within (SetDefault n dir allow)) ls
after cs ls c (Sweep n now) = changed (is_layer c n) (within (Sweep n now)) ls

-- the first that applies
abbrev pub first_refusal : List (Bool × Refusal) → Option Refusal
first_refusal [] = None
first_refusal (t ∷ ts) = if t.0 then Some t.1 else first_refusal ts

-- the layers, or why the command is refused
abbrev pub answered : Option Refusal → List LayerSeen → Result (List LayerSeen) Refusal
answered None ls = Ok ls
answered (Some e) ls = Err e

-- the answer to a command of a controller: the first refusal that applies, else the layers after it
abbrev pub obey : List ℕ → List LayerSeen → ℕ → Command → Result (List LayerSeen) Refusal
obey cs ls c m = answered (first_refusal (tests ls c m)) (after cs ls c m)

-- an answer, and the layers that it leaves
abbrev pub told : Result (Unit {0}) Refusal → List LayerSeen → Result (List LayerSeen) Refusal
told (Ok done) ls = Ok ls
told (Err e) ls = Err e

abbrev pub is_memory : Result (Unit {0}) Refusal → Bool
is_memory (Err Memory) = true
is_memory _ = false

-- the rules that a command gives
abbrev pub rules_given : Command → List Rule
rules_given (AddLayer s) = []
rules_given (RemoveLayer n) = []
rules_given (AddGroup n g dir when) = []
rules_given (RemoveGroup n g) = []
rules_given (PutRules n g rs) = rs
rules_given (PutMany ps) = flat_map (λ p. p.rules) ps
rules_given (AddRule n g r) = r ∷ []
rules_given (RemoveRule n g k) = []
rules_given (SetDefault n dir allow) = []
rules_given (Sweep n now) = []
