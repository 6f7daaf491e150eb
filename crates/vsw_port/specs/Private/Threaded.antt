-- The first refusal as it is found on the way: the pair that leaves a layer is told right before the one that is wanted there.
use Rattle.std.specs.Prelude.{◌≡◌, ◌==◌, ℕ, List, [], ◌∷◌, true, Option, Some, None, is_some, if◌then◌else◌}
use Rattle.std.specs.List.{slice_get}
use Rattle.vsw_port.specs.declared.stop.Stop.{Stop}
use Rattle.vsw_port.specs.Admit.{refused_at}
use Rattle.vsw_walk.specs.declared.scratch.Wanted.{Wanted}
use Rattle.vsw_walk.specs.declared.scratch.Wanted.TheVariants.{Make, Touch, Leave}
use Rattle.vsw_policy.specs.Layer.{LayerSeen}
use Rattle.vsw_layerflow.specs.declared.pair.Pair.{Pair}
use Rattle.vsw_layerflow.specs.Pairs.{numbered}
use Rattle.vsw_policy.specs.Sound.{Each}

-- the number of the pair that leaves the layer at a place, of what was told to leave last: a place and a number
abbrev pub left_at : ℕ → Option (ℕ × ℕ) → Option ℕ
left_at place None = None
left_at place (Some left) = if place == left.0 then Some left.1 else None

-- the refusal of the pair that a change makes, if it makes one
abbrev pub refusal_by : List LayerSeen → Option (ℕ × ℕ) → Wanted → Option Stop
refusal_by ls left (Make place p) = refused_at (slice_get ls place) (left_at place left) p
refusal_by ls left (Touch place number state last) = None
refusal_by ls left (Leave place number) = None

-- the place of the layer that a pair leaves by a change, and the pair's number
abbrev pub left_by : Wanted → Option (ℕ × ℕ)
left_by (Make place p) = None
left_by (Touch place number state last) = None
left_by (Leave place number) = Some (place, number)

abbrev pub or_next : Option Stop → Option Stop → Option Stop
or_next (Some stop) next = Some stop
or_next None next = next

abbrev pub refusal_after : List LayerSeen → Option (ℕ × ℕ) → List Wanted → Option Stop
refusal_after ls left [] = None
refusal_after ls left (Make place p ∷ ws) = or_next (refused_at (slice_get ls place) (left_at place left) p) (refusal_after ls None ws)
refusal_after ls left (Touch place number state last ∷ ws) = refusal_after ls None ws
refusal_after ls left (Leave place number ∷ ws) = refusal_after ls (Some (place, number)) ws

-- the pair that leaves is among these
abbrev pub HasLeft : Option ℕ → List Pair → Type 0
HasLeft None ps = Unit {0}
HasLeft (Some number) ps = is_some (numbered number ps) ≡ true

-- the number, where it isn't that of the pair that leaves
abbrev pub other_than : Option ℕ → ℕ → Option ℕ
other_than None number = Some number
other_than (Some left) number = if left == number then None else Some number

-- the pair of this number is in the layer at a place
abbrev pub IsThere : List LayerSeen → ℕ → ℕ → Type 0
IsThere ls place number = (l : LayerSeen) → slice_get ls place ≡ Some l → is_some (numbered number l.pairs) ≡ true

abbrev pub LeftThere : List LayerSeen → Option (ℕ × ℕ) → Type 0
LeftThere ls None = Unit {0}
LeftThere ls (Some left) = IsThere ls left.0 left.1

abbrev pub ThereIn : List LayerSeen → Wanted → Type 0
ThereIn ls (Make place p) = Unit {0}
ThereIn ls (Touch place number state last) = Unit {0}
ThereIn ls (Leave place number) = IsThere ls place number

-- each pair that leaves is in its layer
abbrev pub AllThere : List LayerSeen → List Wanted → Type 0
AllThere ls ws = Each (ThereIn ls) ws
