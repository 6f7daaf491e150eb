-- The choice, made from the last group to the first.
use Rattle.std.specs.Prelude.{ℕ, List, [], ◌∷◌, Option, Some, None, if◌then◌else◌}
use Rattle.vsw_base.specs.declared.header.Header.{Header}
use Rattle.vsw_base.specs.declared.packet.Dir.{Dir}
use Rattle.vsw_rule.specs.Choice.{Chosen, applies, of_group, pick}
use Rattle.vsw_rule.specs.declared.rule.Rule.{Rule}
use Rattle.vsw_rule.specs.declared.rule.Group.{Group}

-- a pick marked last is chosen at once; any other gives way to what later groups choose
abbrev pub decided : ℕ → Rule → Option Chosen → Option Chosen
decided g r None = Some (of_group g r)
decided g r (Some c) = Some (if r.last then of_group g r else c)

abbrev pub after : ℕ → Option Rule → Option Chosen → Option Chosen
after g None later = later
after g (Some r) later = decided g r later

abbrev pub from_end : Dir → List Group → List Header → Option Chosen
from_end d [] hs = None
from_end d (g ∷ gs) hs = if applies d hs g then after g.number (pick g.rules hs) (from_end d gs hs) else from_end d gs hs
