-- A file that was opened.
use Rattle.std.specs.Prelude.{◌≡◌, ◌≤◌, ◌⊎◌, List, [], ◌∷◌, ℕ, Option, length}
use Rattle.vsw_host.specs.Outside.{Inputs, Opened}
use Rattle.vsw_host.specs.Told.{TellsHeld, TellsSince}

-- this file alone was opened since
pub record OpensOne (old new : Option Inputs) (file_name : List ℕ) (f : Opened) : Type 0 where
  pub named : f.name ≡ file_name
  pub since : TellsSince old new (f ∷ [])
  pub held : TellsHeld old f.name f.bytes
  pub within : f.read ≤ length f.bytes

-- no file was opened since, or this one of which no more was read than that
abbrev pub OpensFew : Option Inputs → Option Inputs → List ℕ → (Opened → Type 0) → Type 0
OpensFew old new name P = TellsSince old new [] ⊎ ((f : Opened) × OpensOne old new name f × P f)
