-- The order of a port's layers.
use Rattle.std.specs.Prelude.{ℕ, List}
use Rattle.std.specs.List.Sorted.{IsPermutation}
use Rattle.vsw_policy.specs.Layer.{LayerSeen}
use Rattle.vsw_policy.specs.Sound.{AreInOrder}
use Rattle.vsw_promise.specs.Ports.{in_order}

-- the layers are the same ones, and none is before one that stands in front of it
abbrev pub StandInOrder : Type 0
StandInOrder = (cs : List ℕ) (ls : List LayerSeen) → AreInOrder cs (in_order cs ls) × IsPermutation ls (in_order cs ls)
