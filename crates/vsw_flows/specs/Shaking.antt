-- What a test of rows leaves: of those that lean on a spot, none that the change shakes.
use Rattle.std.specs.Prelude.{◌≡◌, ◌+◌, ℕ, List, [], ◌∷◌, Bool, true, false}
use Rattle.std.specs.List.{list_any}
use Rattle.vsw_policy.specs.Layer.{LayerSeen}
use Rattle.vsw_rows.specs.Shaken.{shake, shakes_one}
use Rattle.vsw_walk.specs.declared.scratch.Looked.{Looked}
use Rattle.vsw_walk.specs.declared.scratch.Wanted.{Wanted}
use Rattle.vsw_walk.specs.declared.scratch.Wanted.TheVariants.{Make, Touch, Leave}
use Rattle.vsw_flows.specs.declared.spot.Spot.{Spot}
use Rattle.vsw_flows.specs.Flows.{IsCurrent, Writing}
use Rattle.vsw_flows.specs.Leant.{kept_at}
use Rattle.vsw_flows.specs.Spots.{same_spot, spot_of}

-- changes that make pairs and take some away, and move none
abbrev pub moves_none : List Wanted → Bool
moves_none [] = true
moves_none (Make place p ∷ ws) = moves_none ws
moves_none (Touch place number state last ∷ ws) = false
moves_none (Leave place number ∷ ws) = moves_none ws

-- the changes shake a look of the row at a place
abbrev pub IsShaken : List LayerSeen → List Wanted → List (List Looked) → ℕ → Type 0
IsShaken ls ws kept place = shake ls ws (kept_at kept place) ≡ true

abbrev pub IsShakenBy : List LayerSeen → Wanted → List (List Looked) → ℕ → Type 0
IsShakenBy ls w kept place = shakes_one ls w (kept_at kept place) ≡ true

-- a current row with this mark isn't shaken
abbrev pub Tested : List LayerSeen → Wanted → List (List Looked) → ℕ → Writing → Type 0
Tested ls w kept mark v = (place : ℕ) → place + 1 ≡ mark → IsCurrent v place → shakes_one ls w (kept_at kept place) ≡ false

-- no current row is that leans on this spot
abbrev pub Past : List LayerSeen → Wanted → List (List Looked) → Spot → Writing → Type 0
Past ls w kept spot v = (place : ℕ) → IsCurrent v place → list_any (λ q. same_spot spot (spot_of q)) (kept_at kept place) ≡ true → shakes_one ls w (kept_at kept place) ≡ false

-- no current row is
abbrev pub NoneLeftBy : List LayerSeen → Wanted → List (List Looked) → Writing → Type 0
NoneLeftBy ls w kept v = (place : ℕ) → IsCurrent v place → shakes_one ls w (kept_at kept place) ≡ false

abbrev pub NoneLeft : List LayerSeen → List Wanted → List (List Looked) → Writing → Type 0
NoneLeft ls ws kept v = (place : ℕ) → IsCurrent v place → shake ls ws (kept_at kept place) ≡ false
