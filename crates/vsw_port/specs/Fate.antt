-- The fate of a packet by its crossing alone: the sizes tell how many bytes leave.
use Rattle.std.specs.Prelude.{ℕ, List, Result, Ok, Err}
use Rattle.vsw_port.specs.Long.{outgoing_size}
use Rattle.vsw_base.specs.declared.fate.Cause.{Cause}
use Rattle.vsw_base.specs.declared.fate.Fate.{Fate}
use Rattle.vsw_base.specs.declared.fate.Fate.TheVariants.{Pass, Drop}
use Rattle.vsw_base.specs.declared.flow.Crossing.{Crossing}
use Rattle.vsw_port.specs.Cross.{Passing, cross_of}
use Rattle.vsw_policy.specs.Layer.{LayerSeen}

-- bytes of a packet that passes: those of its frame without the dropped encapsulations, and 50 for each that is pushed
abbrev pub length_of : Crossing → Passing → ℕ
length_of x way = outgoing_size x way.stack way.kept

-- a packet passes with its length, or is dropped for the cause
abbrev pub fate_by : Crossing → Result Passing Cause → Fate
fate_by x (Ok way) = Pass (length_of x way)
fate_by x (Err cause) = Drop cause

-- the fate of a packet at these layers, where memory suffices
abbrev pub fate_at : List LayerSeen → Crossing → Fate
fate_at ls x = fate_by x (cross_of ls x).fate
