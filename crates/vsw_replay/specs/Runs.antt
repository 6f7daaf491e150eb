-- What the run of a trace opens, reads and puts, by how it ends.
use Rattle.std.specs.Prelude.{◌≡◌, ◌≤◌, ◌⊎◌, ℕ, List}
use Rattle.vsw_host.specs.Outside.{Outside}
use Rattle.vsw_run.specs.ByTrace as of_trace
use Rattle.vsw_run.specs.Steps.{EndsUnopened, Reads}
use Rattle.vsw_promise.specs.Jobs.{Setting}
use Rattle.vsw_replay.specs.Endings.{ending_of}
use Rattle.vsw_replay.specs.declared.ending.TraceEnd.{TraceEnd}

-- the run of the trace of this name, by how it ended
abbrev pub Ends : Setting → Outside → Outside → List ℕ → TraceEnd → Type 0
Ends s old new name end = EndsUnopened old new (ending_of end) ⊎ of_trace.Ends s (Reads old new name) old new (ending_of end)

-- nothing was complained, and counts of faults never fell
pub record RunsTrace (s : Setting) (old new : Outside) (name : List ℕ) (end : TraceEnd) : Type 0 where
  pub ends : Ends s old new name end
  pub complained : new.complained ≡ old.complained
  pub complain_faults : new.complain_faults ≡ old.complain_faults
  pub inputs_later : old.input_faults ≤ new.input_faults
  pub puts_later : old.put_faults ≤ new.put_faults
