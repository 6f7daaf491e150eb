-- A run over a generated workload ended as its workload did.
use Rattle.std.proofs.Common.{◌≡◌, ℕ, refl, sym, subst}
use Rattle.vsw_host.specs.Outside.{Outside}
use Rattle.vsw_host.proofs.CallerLemmas.{TellsSince-SameInputs}
use Rattle.vsw_run.specs.declared.ending.Ending.{Ending}
use Rattle.vsw_run.specs.declared.ending.Ending.TheVariants as ending
use Rattle.vsw_replay.proofs.Summing.{nothing_put}
use Rattle.vsw_replay.specs.declared.run.WorkloadEnd.{WorkloadEnd}
use Rattle.vsw_replay.specs.declared.run.WorkloadEnd.TheVariants as end
use Rattle.vsw_replay.specs.WorkloadRuns.{RunsWorkload}
use Rattle.vsw_replay.specs.Endings.{drawn_ending}
use Rattle.vsw_app.specs.Stages.{HasGenerated}

pub generated : (start packets : ℕ) (old new : Outside) (e : WorkloadEnd) (end : Ending) → RunsWorkload start packets old new e → end ≡ drawn_ending e → HasGenerated start packets old new end
generated start packets old new e end r is = subst (HasGenerated start packets old new) (sym is) (record {
  runs = record { opens = TellsSince-SameInputs old new r.inputs; ends = r.ends };
  complained = r.complained;
  complain_faults = r.complain_faults;
})

-- nothing was run
pub ungenerated : (start packets : ℕ) (old : Outside) → HasGenerated start packets old old ending.Memory
ungenerated start packets old = generated start packets old old end.Memory ending.Memory (nothing_put start packets old) refl
