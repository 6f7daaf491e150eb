-- Which rule of a layer's groups a packet meets.
use Rattle.std.specs.Prelude.{◌≡◌, ℕ, ◌<◌, ◌≤◌, ◌&&◌, List, [], ◌∷◌, ◌++◌, Bool, true, false, nat_le, Option, Some, None, option_map, if◌then◌else◌}
use Rattle.std.specs.List.{filter_map, find, last_or}
use Rattle.std.specs.Option.{option_or}
use Rattle.vsw_base.specs.Direction.{same_dir}
use Rattle.vsw_base.specs.declared.header.Header.{Header}
use Rattle.vsw_base.specs.declared.packet.Dir.{Dir}
use Rattle.vsw_rule.specs.declared.rule.Rule.{Rule}
use Rattle.vsw_rule.specs.declared.rule.Group.{Group}
use Rattle.vsw_rule.specs.Match.{matches, all_hold}

-- the one of lesser priority, and of two equals the first
abbrev pub better : Rule → Option Rule → Option Rule
better r None = Some r
better r (Some s) = if nat_le r.priority s.priority then Some r else Some s

-- a group's pick: the rule of least priority among those that match, and of these the first
abbrev pub pick : List Rule → List Header → Option Rule
pick [] hs = None
pick (r ∷ rs) hs = if matches r hs then better r (pick rs hs) else pick rs hs

-- the group is of the packet's direction, and all its conditions hold
abbrev pub applies : Dir → List Header → Group → Bool
applies d hs g = same_dir g.dir d && all_hold g.when hs

-- the rule that a packet meets, and the number of its group
pub record Chosen : Type 0 where
  pub group : ℕ
  pub rule : Rule

-- a rule that was chosen in the group of this number
abbrev pub of_group : ℕ → Rule → Chosen
of_group n r = record { group = n; rule = r }

-- the pick of a group that applies
abbrev pub pick_in : Dir → List Header → Group → Option Chosen
pick_in d hs g = if applies d hs g then option_map (of_group g.number) (pick g.rules hs) else None

-- the picks of the groups that apply, in the order of these
abbrev pub picks_of : Dir → List Group → List Header → List Chosen
picks_of d gs hs = filter_map (pick_in d hs) gs

-- a rule at which the choice ends
abbrev pub is_last : Chosen → Bool
is_last c = c.rule.last

-- the first pick that is marked last; where none is, the last pick
abbrev pub choose : Dir → List Group → List Header → Option Chosen
choose d gs hs = option_or (find is_last (picks_of d gs hs)) (last_or None (picks_of d gs hs))

-- every rule is such
abbrev pub Each : (Rule → Type 0) → List Rule → Type 0
Each P [] = Unit {0}
Each P (r ∷ rs) = P r × Each P rs

-- the rule doesn't match, or has a greater priority than this one
abbrev pub IsAfter : Rule → List Header → Rule → Type 0
IsAfter r hs s = matches s hs ≡ true → r.priority < s.priority

-- or no lesser one
abbrev pub IsNotBefore : Rule → List Header → Rule → Type 0
IsNotBefore r hs s = matches s hs ≡ true → r.priority ≤ s.priority

-- the rule matches, and no matching rule is before it by priority and then by place
pub record IsPick (rules : List Rule) (hs : List Header) (r : Rule) : Type 0 where
  pub front : List Rule
  pub rest : List Rule
  pub stands : rules ≡ front ++ r ∷ rest
  pub meets : matches r hs ≡ true
  pub beats_front : Each (IsAfter r hs) front
  pub beats_rest : Each (IsNotBefore r hs) rest

-- no rule matches
abbrev pub NoneMatches : List Rule → List Header → Type 0
NoneMatches rules hs = Each (λ r. matches r hs ≡ false) rules

abbrev pub Picks : List Rule → List Header → Option Rule → Type 0
Picks rules hs None = NoneMatches rules hs
Picks rules hs (Some r) = IsPick rules hs r
