-- What the answering of a trace opens, reads and puts, by how it ends.
use Rattle.std.specs.Prelude.{◌≡◌, ◌≤◌, ◌⊎◌, ℕ, List}
use Rattle.vsw_host.specs.Outside.{Outside}
use Rattle.vsw_offload.specs.declared.port_rows.PortRows.{PortRows}
use Rattle.vsw_run.specs.ByRows.{TraceEnds}
use Rattle.vsw_run.specs.Steps.{EndsUnopened, Reads}
use Rattle.vsw_run.specs.declared.ending.Ending.{Ending}

-- by how it ended
abbrev pub Ends : List PortRows → Outside → Outside → List ℕ → Ending → Type 0
Ends ports old new name end = EndsUnopened old new end ⊎ TraceEnds ports (Reads old new name) old new end

-- nothing was complained, and counts of faults never fell
pub record AnswersTrace (ports : List PortRows) (old new : Outside) (name : List ℕ) (end : Ending) : Type 0 where
  pub ends : Ends ports old new name end
  pub complained : new.complained ≡ old.complained
  pub complain_faults : new.complain_faults ≡ old.complain_faults
  pub inputs_later : old.input_faults ≤ new.input_faults
  pub puts_later : old.put_faults ≤ new.put_faults
