-- The slots in which a walk's looks are told.
use Rattle.std.specs.Prelude.{◌≡◌, ℕ, List, get_or}
use Rattle.vsw_base.specs.declared.header.Header.{Header}
use Rattle.vsw_header.specs.Key.{key_from}
use Rattle.vsw_walk.specs.declared.scratch.Looked.{Looked}

-- the look in the slot at a place has the key of a stack
abbrev pub HasKey : ℕ → List Header → List Looked → Type 0
HasKey place hs slots = (other : Looked) → (get_or slots place other).key ≡ key_from hs
