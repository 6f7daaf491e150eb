-- The sizes of a frame tell its fate.
use Rattle.std.specs.Prelude.{◌≡◌, ℕ, List, Ok}
use Rattle.vsw_base.specs.declared.flow.Crossing.{Crossing}
use Rattle.vsw_base.specs.Frame.{Parts, frame_of}
use Rattle.vsw_port.specs.Cross.{cross_of}
use Rattle.vsw_port.specs.Fate.{fate_at}
use Rattle.vsw_policy.specs.Layer.{LayerSeen}
use Rattle.vsw_answer.specs.Transit.{IsOfFrame, fate_of}

-- so many bytes leave as the sizes tell: a packet's fate is known without its frame
abbrev pub Measures : Type 0
Measures = (ls : List LayerSeen) (x : Crossing) (p : Parts) (bytes : List ℕ) → frame_of bytes ≡ Ok p → IsOfFrame x p → fate_of p (cross_of ls x).fate ≡ fate_at ls x
