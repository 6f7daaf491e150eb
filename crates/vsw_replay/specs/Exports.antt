-- What a run opens, reads and puts that exports the rows of its ports behind a trace, by how it ends.
use Rattle.std.specs.Prelude.{◌≡◌, ◌≤◌, ◌⊎◌, ℕ, List}
use Rattle.vsw_host.specs.Outside.{Outside}
use Rattle.vsw_promise.specs.Jobs.{Setting}
use Rattle.vsw_run.specs.Exporting.{TraceEnds}
use Rattle.vsw_replay.specs.Endings.{ending_of}
use Rattle.vsw_run.specs.Steps.{EndsUnopened, Reads}
use Rattle.vsw_replay.specs.declared.ending.TraceEnd.{TraceEnd}

-- the export behind the trace of this name, by how it ended
abbrev pub ExportEnds : Setting → Outside → Outside → List ℕ → TraceEnd → Type 0
ExportEnds s old new name end = EndsUnopened old new (ending_of end) ⊎ TraceEnds s (Reads old new name) old new (ending_of end)

-- and nothing was complained, and counts of faults never fell
pub record ExportsTrace (s : Setting) (old new : Outside) (name : List ℕ) (end : TraceEnd) : Type 0 where
  pub ends : ExportEnds s old new name end
  pub complained : new.complained ≡ old.complained
  pub complain_faults : new.complain_faults ≡ old.complain_faults
  pub inputs_later : old.input_faults ≤ new.input_faults
  pub puts_later : old.put_faults ≤ new.put_faults
