-- What a crossing tells of the frame that it is of.
use Rattle.std.specs.Prelude.{◌≡◌, ℕ, List, true, length, Ok}
use Rattle.vsw_port.specs.Long.{outer_total, outgoing_size}
use Rattle.vsw_base.specs.declared.flow.Crossing.{Crossing}
use Rattle.vsw_base.specs.declared.header.Header.{Header}
use Rattle.vsw_base.specs.Frame.{Parts, frame_of, sizes_of}
use Rattle.vsw_base.specs.Shape.{is_stack}
use Rattle.vsw_walk.specs.Walk.{walk_of}
use Rattle.vsw_frame.specs.Bytes as bytes
use Rattle.vsw_policy.specs.Layer.{LayerSeen}

-- the outermost total length that a crossing tells by its sizes is that of the outgoing bytes of the frame that it is of
abbrev pub IsLongAlike : Type 0
IsLongAlike = (p : Parts) (x : Crossing) (edited : List Header) (kept : ℕ) → is_stack p.stack ≡ true → x.id.stack ≡ p.stack → x.sizes ≡ sizes_of p.levels
    → outer_total x edited kept ≡ bytes.outer_total p edited kept

-- what leaves after a walk has as many bytes as the sizes tell
abbrev pub IsSized : Type 0
IsSized = (ls : List LayerSeen) (x : Crossing) (p : Parts) (frame : List ℕ) → frame_of frame ≡ Ok p → x.id.stack ≡ p.stack → x.sizes ≡ sizes_of p.levels
    → length (bytes.outgoing p (walk_of ls x).stack (walk_of ls x).kept) ≡ outgoing_size x (walk_of ls x).stack (walk_of ls x).kept

-- a walk makes of a packet's stack one that its frame's bytes can follow
abbrev pub IsFollowed : Type 0
IsFollowed = (ls : List LayerSeen) (x : Crossing) → is_stack x.id.stack ≡ true → bytes.IsEdit x.id.stack (walk_of ls x).stack (walk_of ls x).kept
