-- What a host tells of several calls together. Where it tells no files, nothing is said.
use Rattle.std.specs.Prelude.{◌≡◌, ℕ, List, [], ◌∷◌, length, take, Option, Some, None}
use Rattle.vsw_host.specs.Outside.{Opened, Inputs, OpensSince}

-- these bytes are held under this name
abbrev pub TellsHeld : Option Inputs → List ℕ → List ℕ → Type 0
TellsHeld None name bytes = Unit {0}
TellsHeld (Some a) name bytes = a.files name ≡ Some bytes

-- these files were opened since, in this order, and no other
abbrev pub TellsSince : Option Inputs → Option Inputs → List Opened → Type 0
TellsSince None new more = Unit {0}
TellsSince (Some a) None more = ⊥
TellsSince (Some a) (Some b) more = OpensSince a b more

-- the file of this name was opened since, and what was got is all of it
pub record ReadsAll (old new : Option Inputs) (file_name got : List ℕ) : Type 0 where
  pub held : TellsHeld old file_name got
  pub since : TellsSince old new (record { name = file_name; bytes = got; read = length got } ∷ [])

-- the file of this name was opened since, and what was got is all that was read of it
pub record ReadsFront (old new : Option Inputs) (file_name got : List ℕ) : Type 0 where
  pub bytes : List ℕ
  pub held : TellsHeld old file_name bytes
  pub since : TellsSince old new (record { name = file_name; bytes = bytes; read = length got } ∷ [])
  pub front : got ≡ take (length got) bytes

-- the file of this name couldn't be opened, and nothing was got
pub record ReadsNothing (old new : Option Inputs) (got : List ℕ) : Type 0 where
  pub since : TellsSince old new []
  pub nothing : got ≡ []
