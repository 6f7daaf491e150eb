-- What a run over a workload leaves, by how it ended.
use Rattle.std.specs.Prelude.{◌≡◌, ◌≤◌, ℕ}
use Rattle.vsw_host.specs.Outside.{Outside, SameInputs}
use Rattle.vsw_run.specs.IsRun.{EndsGenerated}
use Rattle.vsw_replay.specs.Endings.{drawn_ending}
use Rattle.vsw_replay.specs.declared.run.WorkloadEnd.{WorkloadEnd}

-- the summary was put, or a front of it, or nothing; and nothing was opened, read or complained
pub record RunsWorkload (start packets : ℕ) (old new : Outside) (end : WorkloadEnd) : Type 0 where
  pub ends : EndsGenerated start packets old new (drawn_ending end)
  pub inputs : SameInputs old new
  pub complained : new.complained ≡ old.complained
  pub complain_faults : new.complain_faults ≡ old.complain_faults
  pub puts_later : old.put_faults ≤ new.put_faults
