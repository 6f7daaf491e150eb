-- What holds of layers that refuse no pair.
use Rattle.std.specs.Prelude.{◌≡◌, ◌<◌, ◌^◌, List, Some}
use Rattle.std.specs.List.{slice_get}
use Rattle.vsw_walk.specs.declared.scratch.Wanted.{Wanted}
use Rattle.vsw_walk.specs.declared.scratch.Wanted.TheVariants.{Make, Touch, Leave}
use Rattle.vsw_policy.specs.Layer.{LayerSeen}
use Rattle.vsw_layerflow.specs.Pairs.{AllApart}
use Rattle.vsw_policy.specs.Sound.{Each}

-- no probe and no number is held twice in the layer, and the most pairs that it may have are told in 32 bits
abbrev pub CanHold : LayerSeen → Type 0
CanHold l = AllApart l.pairs × (l.spec.pairs < 2 ^ 32)

-- this is so of the layer in which a pair is made
abbrev pub HoldsOf : List LayerSeen → Wanted → Type 0
HoldsOf ls (Make place p) = (l : LayerSeen) → slice_get ls place ≡ Some l → CanHold l
HoldsOf ls (Touch place number state last) = Unit {0}
HoldsOf ls (Leave place number) = Unit {0}

-- and of each layer in which one is made
abbrev pub AllHold : List LayerSeen → List Wanted → Type 0
AllHold ls ws = Each (HoldsOf ls) ws
