-- What the reading of rows leaves, of a run that answers a trace from them.
use Rattle.std.specs.Prelude.{◌≡◌, ◌≢◌, ◌≤◌, ℕ, List, [], ◌∷◌, Result, Ok, Err}
use Rattle.vsw_host.specs.Outside.{Opened, Outside, SameOutputs}
use Rattle.vsw_offload.specs.Bad.{IsBadRows}
use Rattle.vsw_offload.specs.Rows.{AreRows, rows_bytes}
use Rattle.vsw_offload.specs.declared.fault.BadRows.TheVariants.{Memory}
use Rattle.vsw_offload.specs.declared.port_rows.PortRows.{PortRows}
use Rattle.vsw_run.specs.ByRows.{IsRowsFile, Opens, RunsByRows}
use Rattle.vsw_run.specs.Words.{Query}
use Rattle.vsw_run.specs.declared.ending.Ending.{Ending}
use Rattle.vsw_run.specs.declared.ending.Ending.TheVariants as ending
use Rattle.vsw_run.specs.declared.ending.RowsFault.TheVariants as fault

-- the bytes of rows, judged: what is at fault with them ends the run by that, and want of memory by that
abbrev pub JudgesRows : List ℕ → Result (List PortRows) Ending → Type 0
JudgesRows bytes (Ok ports) = AreRows ports × (bytes ≡ rows_bytes ports)
JudgesRows bytes (Err (ending.Rows (fault.Bad why))) = IsBadRows bytes why × (why ≢ Memory)
JudgesRows bytes (Err ending.Memory) = Unit {0}
JudgesRows bytes (Err _) = ⊥

-- the rows were read, and are those of these ports, and nothing else was done
pub record HasRows (q : Query) (old new : Outside) (ports : List PortRows) : Type 0 where
  pub file : Opened
  pub opens : Opens old new q (file ∷ [])
  pub is : IsRowsFile q.rows file ports
  pub outputs : SameOutputs old new
  pub later : old.input_faults ≤ new.input_faults

-- the run ended, and nothing was complained
pub record HasAnswered (q : Query) (old new : Outside) (end : Ending) : Type 0 where
  pub runs : RunsByRows q old new end
  pub complained : new.complained ≡ old.complained
  pub complain_faults : new.complain_faults ≡ old.complain_faults

-- what the reading of the rows leaves
abbrev pub ReadsRows : Query → Outside → Outside → Result (List PortRows) Ending → Type 0
ReadsRows q old new (Ok ports) = HasRows q old new ports
ReadsRows q old new (Err end) = HasAnswered q old new end
