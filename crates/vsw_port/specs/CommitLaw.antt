-- What holds of crossings.
use Rattle.std.specs.Prelude.{◌≡◌, ◌<◌, ◌^◌, ◌↔◌, List, false}
use Rattle.vsw_base.specs.declared.flow.Crossing.{Crossing}
use Rattle.vsw_port.specs.Cross.{cross_of}
use Rattle.vsw_policy.specs.Layer.{LayerSeen}

-- a packet changes something exactly where the layers are others after it. Its moment is of 64 bits, as all are
abbrev pub ChangesTell : Type 0
ChangesTell = (ls : List LayerSeen) (x : Crossing) → x.moment < 2 ^ 64 → ((cross_of ls x).changed ≡ false) ↔ ((cross_of ls x).layers ≡ ls)
