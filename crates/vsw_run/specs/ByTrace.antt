-- What a run puts of its trace, by how it ended, in a setting. `Reads t` says that t was read of the trace.
use Rattle.std.specs.Prelude.{◌⊎◌, ℕ, List, [], take}
use Rattle.vsw_host.specs.Outside.{Outside, Grows, Rose}
use Rattle.vsw_promise.specs.Jobs.{Setting}
use Rattle.vsw_run.specs.declared.ending.Ending.{Ending}
use Rattle.vsw_run.specs.declared.ending.Ending.TheVariants as ending
use Rattle.vsw_run.specs.Trace.{Trace, Tells, MayTell}

-- a text was put
abbrev pub Puts : Outside → Outside → List ℕ → Type 0
Puts old new text = Grows old.put new.put text

-- a front of a text was put
abbrev pub PutsFront : Outside → Outside → List ℕ → Type 0
PutsFront old new text = (count : ℕ) × Puts old new (take count text)

-- nothing was put
abbrev pub PutsNothing : Outside → Outside → Type 0
PutsNothing old new = Puts old new []

-- what was read of the trace gives this ending, and its text was put
pub record EndsSo (s : Setting) (Reads : Trace → Type 0) (old new : Outside) (end : Ending) : Type 0 where
  pub trace : Trace
  pub reads : Reads trace
  pub text : List ℕ
  pub tells : Tells s trace end text
  pub puts : Puts old new text

-- the run broke off, and put a front of a text that it might have put
pub record BreaksOff (s : Setting) (Reads : Trace → Type 0) (old new : Outside) : Type 0 where
  pub trace : Trace
  pub reads : Reads trace
  pub text : List ℕ
  pub tells : MayTell s trace text
  pub puts : PutsFront old new text

-- by how it ended. It ends by a read fault or a write fault only if the host counted one
abbrev pub Ends : Setting → (Trace → Type 0) → Outside → Outside → Ending → Type 0
Ends s Reads old new ending.Done = EndsSo s Reads old new ending.Done
Ends s Reads old new (ending.Trace bad) = EndsSo s Reads old new (ending.Trace bad)
Ends s Reads old new ending.Records = EndsSo s Reads old new ending.Records
Ends s Reads old new ending.ReadFault = Rose old.input_faults new.input_faults × EndsSo s Reads old new ending.ReadFault
Ends s Reads old new ending.WriteFault = Rose old.put_faults new.put_faults × BreaksOff s Reads old new
Ends s Reads old new ending.Memory = EndsSo s Reads old new ending.Memory ⊎ BreaksOff s Reads old new
Ends s Reads old new _ = ⊥

-- of runs that put something else: something was read of the trace, and nothing put
pub record StopsUnput (Reads : Trace → Type 0) (old new : Outside) : Type 0 where
  pub trace : Trace
  pub reads : Reads trace
  pub nothing : PutsNothing old new
