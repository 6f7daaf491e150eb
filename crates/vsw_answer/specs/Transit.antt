-- What becomes of a frame at its port: how its packet crosses the layers, and the bytes with which it leaves.
use Rattle.std.specs.Prelude.{◌≡◌, ◌≤◌, ℕ, List, [], length, nat_lt, take, Bool, true, false, Result, Ok, Err, if◌then◌else◌}
use Rattle.vsw_base.specs.declared.fate.Cause.{Cause}
use Rattle.vsw_base.specs.declared.fate.Cause.TheVariants.{Memory}
use Rattle.vsw_base.specs.declared.fate.Fate.{Fate}
use Rattle.vsw_base.specs.declared.fate.Fate.TheVariants.{Pass, Drop}
use Rattle.vsw_base.specs.declared.flow.Crossing.{Crossing}
use Rattle.vsw_base.specs.declared.header.Header.{Header}
use Rattle.vsw_base.specs.Frame.{Parts, sizes_of}
use Rattle.vsw_base.specs.Shape.{encaps}
use Rattle.vsw_port.specs.Cross.{Passing, cross_of}
use Rattle.vsw_frame.specs.Bytes.{IsEdit, outer_total, outgoing, outgoing_size}
use Rattle.vsw_frame.specs.Tiles.{outermost}
use Rattle.vsw_policy.specs.Layer.{LayerSeen}

-- the packet is the frame's
pub record IsOfFrame (x : Crossing) (p : Parts) : Type 0 where
  pub stack : x.id.stack ≡ p.stack
  pub sizes : x.sizes ≡ sizes_of p.levels

-- what became of a frame: its fate, the bytes with which it left, the layers after it, and whether it is an entry of the history,
-- since it changed them
pub record Passage : Type 0 where
  pub fate : Fate
  pub bytes : List ℕ
  pub layers : List LayerSeen
  pub entry : Bool

-- a frame passes with its outgoing bytes, and is dropped without any
abbrev pub fate_of : Parts → Result Passing Cause → Fate
fate_of p (Ok passing) = Pass (length (outgoing p passing.stack passing.kept))
fate_of p (Err cause) = Drop cause

abbrev pub bytes_of : Parts → Result Passing Cause → List ℕ
bytes_of p (Ok passing) = outgoing p passing.stack passing.kept
bytes_of p (Err cause) = []

-- what its crossing makes of a frame
unfoldable pub passage_of : List LayerSeen → Crossing → Parts → Passage
passage_of ls x p = record {
  fate = fate_of p (cross_of ls x).fate;
  bytes = bytes_of p (cross_of ls x).fate;
  layers = (cross_of ls x).layers;
  entry = (cross_of ls x).changed;
}

-- there was no memory for a pair: the frame is dropped, and nothing is changed
abbrev pub unmet : List LayerSeen → Passage
unmet ls = record { fate = Drop Memory; bytes = []; layers = ls; entry = false }

abbrev pub met : Bool → List LayerSeen → Crossing → Parts → Passage
met true ls x p = unmet ls
met false ls x p = passage_of ls x p

-- the bytes of a pass: the frame's own where nothing of it was edited, and else so many at the front of `out`
abbrev pub bytes_of_pass : Bool → Parts → ℕ → List ℕ → List ℕ
bytes_of_pass own p len out = if own then outermost p.levels else take len out

abbrev pub bytes_in : Bool → Parts → Fate → List ℕ → List ℕ
bytes_in own p (Pass len) out = bytes_of_pass own p len out
bytes_in own p (Drop cause) out = []

-- the outcome that a fate tells, with these bytes
abbrev pub told : Fate → Bool → List ℕ → List LayerSeen → Passage
told fate entry bytes ls = record { fate = fate; bytes = bytes; layers = ls; entry = entry }

-- bytes of a pass, 0 of a drop
abbrev pub len_of : Fate → ℕ
len_of (Pass len) = len
len_of (Drop cause) = 0

-- a frame that passes can be written with these headers, so many of its encapsulations kept
abbrev pub CanLeave : Parts → List Header → ℕ → Fate → Type 0
CanLeave p hs kept (Pass len) = IsEdit p.stack hs kept × (nat_lt 65535 (outer_total p hs kept) ≡ false)
CanLeave p hs kept (Drop cause) = Unit {0}

-- nothing of the frame was edited: it leaves with its own headers, and all of its encapsulations are kept
pub record IsUnedited (p : Parts) (hs : List Header) (kept : ℕ) : Type 0 where
  pub stack : hs ≡ p.stack
  pub kept_is : kept ≡ encaps p.stack

-- its outgoing bytes are its own, or stand at the front of a room. They are as many as the frame's sizes tell
pub record HasLeft (p : Parts) (hs : List Header) (kept : ℕ) (own : Bool) (out : List ℕ) : Type 0 where
  pub bytes : bytes_of_pass own p (outgoing_size p hs kept) out ≡ outgoing p hs kept
  pub size : length (outgoing p hs kept) ≡ outgoing_size p hs kept
  pub room : outgoing_size p hs kept ≤ 65700

abbrev pub Leaves : Parts → List Header → ℕ → Bool → Fate → List ℕ → Type 0
Leaves p hs kept own (Pass len) out = HasLeft p hs kept own out
Leaves p hs kept own (Drop cause) out = Unit {0}
