-- What a core makes of a packet, whatever its frame's bytes.
use Rattle.std.specs.Prelude.{◌≡◌, ℕ, List, Bool, true, false}
use Rattle.vsw_base.specs.declared.fate.Cause.TheVariants.{Memory}
use Rattle.vsw_base.specs.declared.fate.Fate.{Fate}
use Rattle.vsw_base.specs.declared.fate.Fate.TheVariants.{Pass, Drop}
use Rattle.vsw_base.specs.declared.flow.Crossing.{Crossing}
use Rattle.vsw_base.specs.declared.header.Header.{Header}
use Rattle.vsw_base.specs.Shape.{encaps}
use Rattle.vsw_port.specs.Cross.{cross_of, made_by, makes}
use Rattle.vsw_port.specs.Fate.{fate_at}
use Rattle.vsw_walk.specs.Walk.{walk_of}
use Rattle.vsw_policy.specs.Layer.{LayerSeen}

-- what became of a packet and of the layers, and whether it is an entry of the history, since it changed them
pub record Crossed : Type 0 where
  pub fate : Fate
  pub layers : List LayerSeen
  pub entry : Bool

-- there was no memory for a pair: the packet is dropped, and nothing is changed
abbrev pub uncrossed : List LayerSeen → Crossed
uncrossed ls = record { fate = Drop Memory; layers = ls; entry = false }

-- a packet at these layers, for which memory was wanting or not
abbrev pub crossed : Bool → List LayerSeen → Crossing → Crossed
crossed true ls x = uncrossed ls
crossed false ls x = record { fate = fate_at ls x; layers = (cross_of ls x).layers; entry = (cross_of ls x).changed }

-- memory may be wanting only where a pair is to be made
abbrev pub MayBeShort : Bool → List LayerSeen → Crossing → Type 0
MayBeShort true ls x = makes (made_by ls x) ≡ true
MayBeShort false ls x = Unit {0}

abbrev pub is_short : Fate → Bool
is_short (Drop Memory) = true
is_short fate = false

-- a packet's walk over these layers ends with these headers, and so many of its encapsulations kept
pub record Edits (ls : List LayerSeen) (x : Crossing) (hs : List Header) (left : ℕ) : Type 0 where
  pub stack : hs ≡ (walk_of ls x).stack
  pub kept : left ≡ (walk_of ls x).kept

-- a packet has the headers with which it came, and all of its encapsulations are kept
pub record IsOwn (x : Crossing) (hs : List Header) (left : ℕ) : Type 0 where
  pub stack : hs ≡ x.id.stack
  pub kept : left ≡ encaps x.id.stack

abbrev pub EditsPass : List LayerSeen → Crossing → List Header → ℕ → Fate → Type 0
EditsPass ls x hs left (Pass len) = Edits ls x hs left
EditsPass ls x hs left (Drop cause) = Unit {0}
