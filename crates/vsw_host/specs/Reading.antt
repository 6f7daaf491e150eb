-- What the reading of a file leaves: what was got, what the host has read of the file, and how it ended.
use Rattle.std.specs.Prelude.{◌≡◌, ℕ, ◌+◌, ◌≤◌, ◌<◌, ◌⊎◌, List, [], ◌∷◌, length, take, Option, Some, None}
use Rattle.vsw_host.specs.Outside.{Inputs, Outside, OpensSince, Rose, SameOutputs}
use Rattle.vsw_host.specs.declared.reading.ReadEnd.{ReadEnd}
use Rattle.vsw_host.specs.declared.reading.ReadEnd.TheVariants.{Whole, Fault, Long, Memory}

-- bytes that are asked for at a time
abbrev pub piece : ℕ
piece = 65536

-- Long is answered as soon as more than `limit` bytes were got, and nothing else is
abbrev pub Sized : ℕ → ReadEnd → List ℕ → Type 0
Sized limit Long got = (limit < length got) × (length got ≤ limit + piece)
Sized limit Whole got = length got ≤ limit
Sized limit Fault got = length got ≤ limit
Sized limit Memory got = length got ≤ limit

-- what was got of a file of these bytes, of which the first `read` were read
abbrev pub Gets : ReadEnd → List ℕ → ℕ → List ℕ → Type 0
Gets Whole bytes read got = (got ≡ bytes) × (read ≡ length bytes)
Gets Fault bytes read got = got ≡ take read bytes
Gets Long bytes read got = got ≡ take read bytes
Gets Memory bytes read got = (n : ℕ) × (n ≤ read) × (got ≡ take n bytes)

-- a file of this name is held, and it alone was opened since
pub record ReadsOne (old new : Inputs) (file_name got : List ℕ) (end : ReadEnd) : Type 0 where
  pub bytes : List ℕ
  pub read : ℕ
  pub held : old.files file_name ≡ Some bytes
  pub since : OpensSince old new (record { name = file_name; bytes = bytes; read = read } ∷ [])
  pub inside : read ≤ length bytes
  pub gets : Gets end bytes read got

-- the file could not be opened, and nothing was
pub record ReadsNone (old new : Inputs) (got : List ℕ) (end : ReadEnd) : Type 0 where
  pub fault : end ≡ Fault
  pub since : OpensSince old new []
  pub gets : got ≡ []

abbrev pub TellsFile : Option Inputs → Option Inputs → List ℕ → List ℕ → ReadEnd → Type 0
TellsFile None new name got end = Unit {0}
TellsFile (Some a) None name got end = ⊥
TellsFile (Some a) (Some b) name got end = ReadsNone a b got end ⊎ ReadsOne a b name got end

-- what the reading of the file of this name did, on every answer
pub record ReadsFile (limit : ℕ) (old new : Outside) (name got : List ℕ) (end : ReadEnd) : Type 0 where
  pub told : TellsFile old.inputs new.inputs name got end
  pub sized : Sized limit end got
  pub fault : end ≡ Fault → Rose old.input_faults new.input_faults
  pub later : old.input_faults ≤ new.input_faults
  pub opens : old.opens ≤ new.opens
  pub outputs : SameOutputs old new
