-- What is left when the rows fell that a command doesn't spare.
use Rattle.std.specs.Prelude.{◌≡◌, ℕ, List, Bool, true, false, Option, Some, None}
use Rattle.std.specs.List.{list_all, slice_get}
use Rattle.vsw_policy.specs.declared.command.Command.{Command}
use Rattle.vsw_policy.specs.Groups.{rules_in}
use Rattle.vsw_policy.specs.Layer.{LayerSeen}
use Rattle.vsw_rule.specs.declared.rule.Rule.{Rule}
use Rattle.vsw_walk.specs.declared.scratch.Looked.{Looked}
use Rattle.vsw_spares.specs.Between.{AreBetween}
use Rattle.vsw_spares.specs.Spared.{leaves_in, names, spares_one}
use Rattle.vsw_flows.specs.Flows.{IsCurrent, Writing}
use Rattle.vsw_flows.specs.Gists.{is_named_at}
use Rattle.vsw_flows.specs.Leant.{kept_at}

-- a command leaves all of these looks what they are told
abbrev pub leaves_all : List LayerSeen → ℕ → Command → List Looked → Bool
leaves_all ls c m qs = list_all (λ q. leaves_in c m (slice_get ls q.layer) q) qs

-- the command names a layer, where there is one
abbrev pub named_in : ℕ → Command → Option LayerSeen → Bool
named_in c m None = false
named_in c m (Some l) = names c m l

-- which layers are named
abbrev pub IsNaming : List LayerSeen → ℕ → Command → List Bool → Type 0
IsNaming ls c m named = (place : ℕ) → is_named_at named place ≡ false → named_in c m (slice_get ls place) ≡ false

-- so it does of each current row
abbrev pub AllLeft : List LayerSeen → ℕ → Command → List (List Looked) → Writing → Type 0
AllLeft ls c m kept v = (place : ℕ) → IsCurrent v place → leaves_all ls c m (kept_at kept place) ≡ true

-- each of several commands of one layer spares each current row
abbrev pub AllSparedBy : List LayerSeen → ℕ → List Command → List (List Looked) → Writing → Type 0
AllSparedBy ls c ms kept v = (place : ℕ) → IsCurrent v place → list_all (λ m. spares_one ls c m (kept_at kept place)) ms ≡ true

-- the rules of a group in the layer at a place differ from these between the same front and rest
abbrev pub IsDiffering : List LayerSeen → ℕ → ℕ → List Rule → List Rule → List Rule → Type 0
IsDiffering ls place group rules old new = (l : LayerSeen) → slice_get ls place ≡ Some l → AreBetween (rules_in l.groups group) rules old new
