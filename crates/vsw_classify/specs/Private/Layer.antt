-- The choice in a layer, group by group from the last.
use Rattle.std.specs.Prelude.{ℕ, List, Bool, Option, Some, None, if◌then◌else◌}
use Rattle.std.specs.List.{list_any}
use Rattle.vsw_base.specs.declared.header.Header.{Header}
use Rattle.vsw_base.specs.declared.packet.Dir.{Dir}
use Rattle.vsw_rule.specs.Choice.{Chosen, applies, of_group, pick}
use Rattle.vsw_rule.specs.Private.FromEnd.{after}
use Rattle.vsw_rule.specs.declared.rule.Rule.{Rule}
use Rattle.vsw_rule.specs.declared.rule.Group.{Group}

abbrev pub is_last : Rule → Bool
is_last r = r.last

-- a rule is marked last
abbrev pub marks_last : List Rule → Bool
marks_last rules = list_any is_last rules

-- what is chosen from a group on, where later groups choose this
abbrev pub with_group : Dir → List Header → Group → Option Chosen → Option Chosen
with_group d hs g later = if applies d hs g then after g.number (pick g.rules hs) later else later

-- a rule of this group, if there is one, in place of what later groups choose
abbrev pub over : ℕ → Option Rule → Option Chosen → Option Chosen
over g None later = later
over g (Some r) later = Some (of_group g r)
