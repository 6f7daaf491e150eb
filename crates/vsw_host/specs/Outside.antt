-- What a program sees and leaves outside: the files that it reads, what it puts to its output, and what it
-- complains to its error output. Each call of a host is a relation between what was and what is.
use Rattle.std.specs.Prelude.{◌≡◌, ℕ, ◌+◌, ◌-◌, ◌^◌, ◌≤◌, ◌<◌, min, List, [], ◌∷◌, ◌++◌, length, take, drop, slice_get, slice_set, Option, Some, None, Result, Ok, Err, OnErr, IfOk, ⊤}
use Rattle.vsw_host.specs.declared.host.Failed.{Failed}

-- a file that was opened: its name, all of its bytes, and how many of them were read
pub record Opened : Type 0 where
  pub name : List ℕ
  pub bytes : List ℕ
  pub read : ℕ

-- the files that there are, by their names, and those that were opened, in order of their numbers from 0
pub record Inputs : Type 0 where
  pub files : List ℕ → Option (List ℕ)
  pub opened : List Opened

-- what a host means; the inputs, what was put and what was complained are there where it tells them
pub record Outside : Type 0 where
  pub inputs : Option Inputs
  -- how many files were opened
  pub opens : ℕ
  pub put : Option (List ℕ)
  pub complained : Option (List ℕ)
  -- the faults of `open` and `read`, of `put`, and of `complain`
  pub input_faults : ℕ
  pub put_faults : ℕ
  pub complain_faults : ℕ

-- a count of faults rose, or stands at the greatest number that it can show
abbrev pub Rose : ℕ → ℕ → Type 0
Rose before now = min (before + 1) (2 ^ 64 - 1) ≤ now

-- a count of faults never falls, and rose where the call failed
pub record HasCause {T : Type 0} (before now : ℕ) (result : Result T Failed) : Type 0 where
  pub later : before ≤ now
  pub failed : OnErr result (Rose before now)

-- nothing was put and nothing complained
pub record SameOutputs (old new : Outside) : Type 0 where
  pub put : new.put ≡ old.put
  pub complained : new.complained ≡ old.complained
  pub put_faults : new.put_faults ≡ old.put_faults
  pub complain_faults : new.complain_faults ≡ old.complain_faults

-- nothing was opened and nothing read
pub record SameInputs (old new : Outside) : Type 0 where
  pub inputs : new.inputs ≡ old.inputs
  pub opens : new.opens ≡ old.opens
  pub input_faults : new.input_faults ≡ old.input_faults

-- the same files are there, and these were opened since, in this order, and no other
pub record OpensSince (old new : Inputs) (more : List Opened) : Type 0 where
  pub files : new.files ≡ old.files
  pub opened : new.opened ≡ old.opened ++ more

-- the answer to `open` is the next number from 0, and nothing is opened where it failed
abbrev pub Numbers : ℕ → ℕ → Result ℕ Failed → Type 0
Numbers before now (Ok n) = (n ≡ before) × (now ≡ before + 1)
Numbers before now (Err e) = now ≡ before

-- a file of this name is held, and is opened at its first byte
pub record OpensFile (old new : Inputs) (file_name : List ℕ) (number : ℕ) : Type 0 where
  pub bytes : List ℕ
  pub held : old.files file_name ≡ Some bytes
  pub since : OpensSince old new (record { name = file_name; bytes = bytes; read = 0 } ∷ [])
  pub next : number ≡ length old.opened

abbrev pub TellsOpen : Option Inputs → Option Inputs → List ℕ → Result ℕ Failed → Type 0
TellsOpen None new name result = Unit {0}
TellsOpen (Some a) None name result = ⊥
TellsOpen (Some a) (Some b) name (Ok n) = OpensFile a b name n
TellsOpen (Some a) (Some b) name (Err e) = b ≡ a

-- the next `count` bytes of the file of this number were read to the front of the buffer; none only at its
-- end, or into a buffer without room
pub record ReadsOn (old new : Inputs) (number : ℕ) (buffer : List ℕ) (count : ℕ) : Type 0 where
  pub file : Opened
  pub found : slice_get old.opened number ≡ Some file
  pub inside : file.read + count ≤ length file.bytes
  pub front : take count buffer ≡ take count (drop file.read file.bytes)
  pub end : count ≡ 0 → 0 < length buffer → file.read ≡ length file.bytes
  pub files : new.files ≡ old.files
  pub opened : new.opened ≡ slice_set old.opened number (record file { read = file.read + count })

abbrev pub TellsRead : Option Inputs → Option Inputs → ℕ → List ℕ → Result ℕ Failed → Type 0
TellsRead None new number buffer result = Unit {0}
TellsRead (Some a) None number buffer result = ⊥
TellsRead (Some a) (Some b) number buffer (Ok n) = ReadsOn a b number buffer n
TellsRead (Some a) (Some b) number buffer (Err e) = b ≡ a

-- what was written has these bytes more at its end, where it is told
abbrev pub Grows : Option (List ℕ) → Option (List ℕ) → List ℕ → Type 0
Grows None new bytes = Unit {0}
Grows (Some xs) None bytes = ⊥
Grows (Some xs) (Some ys) bytes = ys ≡ xs ++ bytes

-- all of the bytes are appended, or a prefix of them where the call failed
abbrev pub Writes : Option (List ℕ) → Option (List ℕ) → List ℕ → Result ⊤ Failed → Type 0
Writes old new bytes (Ok u) = Grows old new bytes
Writes old new bytes (Err e) = (n : ℕ) × Grows old new (take n bytes)

pub record DoesOpen (old new : Outside) (name : List ℕ) (result : Result ℕ Failed) : Type 0 where
  pub told : TellsOpen old.inputs new.inputs name result
  pub number : Numbers old.opens new.opens result
  pub cause : HasCause old.input_faults new.input_faults result
  pub outputs : SameOutputs old new

-- `buffer` is the buffer as the call leaves it
pub record DoesRead (old new : Outside) (file : ℕ) (buffer : List ℕ) (result : Result ℕ Failed) : Type 0 where
  pub told : TellsRead old.inputs new.inputs file buffer result
  pub within : IfOk result (λ n. n ≤ length buffer)
  pub opens : new.opens ≡ old.opens
  pub cause : HasCause old.input_faults new.input_faults result
  pub outputs : SameOutputs old new

pub record DoesPut (old new : Outside) (bytes : List ℕ) (result : Result ⊤ Failed) : Type 0 where
  pub told : Writes old.put new.put bytes result
  pub cause : HasCause old.put_faults new.put_faults result
  pub inputs : SameInputs old new
  pub complained : new.complained ≡ old.complained
  pub complain_faults : new.complain_faults ≡ old.complain_faults

pub record DoesComplain (old new : Outside) (bytes : List ℕ) (result : Result ⊤ Failed) : Type 0 where
  pub told : Writes old.complained new.complained bytes result
  pub cause : HasCause old.complain_faults new.complain_faults result
  pub inputs : SameInputs old new
  pub put : new.put ≡ old.put
  pub put_faults : new.put_faults ≡ old.put_faults
