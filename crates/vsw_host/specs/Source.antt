-- A file that is read in pieces.
use Rattle.std.specs.Prelude.{◌≡◌, ℕ, ◌≤◌, ◌<◌, List, [], ◌++◌, length, take, Option, Some, None, Result, Ok, Err}
use Rattle.vsw_host.specs.Outside.{Inputs, Outside, Rose, SameInputs, SameOutputs}
use Rattle.vsw_host.specs.Reading.{piece}
use Rattle.vsw_host.specs.Told.{ReadsAll, ReadsFront, ReadsNothing}
use Rattle.vsw_host.specs.declared.host.Failed.{Failed}
use Rattle.vsw_host.specs.declared.source.Unopened.{Unopened}
use Rattle.vsw_host.specs.declared.source.Unopened.TheVariants.{Fault, Memory}

-- a file's number is its place among those that were opened
abbrev pub IsNumbered : Option Inputs → ℕ → Type 0
IsNumbered None file = Unit {0}
IsNumbered (Some a) file = file ≡ length a.opened

-- the file of this name was opened since as the next one, and these are its first bytes, those that were read of it
pub record IsReading (start now : Outside) (name : List ℕ) (file : ℕ) (got : List ℕ) : Type 0 where
  pub front : ReadsFront start.inputs now.inputs name got
  pub number : IsNumbered start.inputs file
  pub is_open : file < now.opens
  pub later : start.input_faults ≤ now.input_faults

-- what is seen of a file that is read in pieces: its number, and the room for a piece that it was opened with, until that is taken
pub record SourceSeen : Type 0 where
  pub file : ℕ
  pub room : List ℕ

-- a file was opened to be read in pieces, or it couldn't be
abbrev pub OpensSource : Outside → Outside → List ℕ → Result SourceSeen Unopened → Type 0
OpensSource old new name (Ok source) = SameOutputs old new × IsReading old new name source.file [] × (length source.room ≡ piece)
OpensSource old new name (Err Fault) = SameOutputs old new × (old.input_faults ≤ new.input_faults) × Rose old.input_faults new.input_faults × ReadsNothing old.inputs new.inputs []
OpensSource old new name (Err Memory) = SameOutputs old new × SameInputs old new

-- a piece was read behind what was read so far; without a byte it shows that this is the whole file
pub record ReadsPiece (start new : Outside) (name : List ℕ) (file : ℕ) (got piece : List ℕ) : Type 0 where
  pub reading : IsReading start new name file (got ++ piece)
  pub end : piece ≡ [] → ReadsAll start.inputs new.inputs name got

-- the next piece was read to the front of a room, or a fault was counted, after which what was read is as it was. `room` is the room as
-- the call leaves it
abbrev pub NextPiece : Outside → Outside → ℕ → List ℕ → Result ℕ Failed → Type 0
NextPiece old new file room (Ok n) = SameOutputs old new × (n ≤ length room) × ((start : Outside) (name got : List ℕ) → IsReading start old name file got → ReadsPiece start new name file got (take n room))
NextPiece old new file room (Err failed) = SameOutputs old new × Rose old.input_faults new.input_faults × ((start : Outside) (name got : List ℕ) → IsReading start old name file got → IsReading start new name file got)
