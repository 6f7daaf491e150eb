-- What the crates tell that read a trace whose name they are given.
use Rattle.std.specs.Prelude.{◌≡◌, ◌≤◌, ℕ, List, [], ◌∷◌, length}
use Rattle.vsw_host.specs.Outside.{Opened, Outside, Rose}
use Rattle.vsw_host.specs.Told.{TellsHeld, TellsSince}
use Rattle.vsw_run.specs.ByTrace.{PutsNothing}
use Rattle.vsw_run.specs.Files.{IsReadOf}
use Rattle.vsw_run.specs.Trace.{Trace}
use Rattle.vsw_run.specs.declared.ending.Ending.{Ending}
use Rattle.vsw_run.specs.declared.ending.Ending.TheVariants as ending

-- the file of this name alone was opened since, and this was read of it
pub record Reads (old new : Outside) (name : List ℕ) (t : Trace) : Type 0 where
  pub file : Opened
  pub named : file.name ≡ name
  pub since : TellsSince old.inputs new.inputs (file ∷ [])
  pub held : TellsHeld old.inputs name file.bytes
  pub within : file.read ≤ length file.bytes
  pub read : IsReadOf old new file t

-- no file was opened, and nothing put
pub record OpensNothing (old new : Outside) : Type 0 where
  pub since : TellsSince old.inputs new.inputs []
  pub nothing : PutsNothing old new

-- so it ended: the trace couldn't be opened, or memory was wanting before
abbrev pub EndsUnopened : Outside → Outside → Ending → Type 0
EndsUnopened old new ending.ReadFault = Rose old.input_faults new.input_faults × OpensNothing old new
EndsUnopened old new ending.Memory = OpensNothing old new
EndsUnopened old new _ = ⊥
