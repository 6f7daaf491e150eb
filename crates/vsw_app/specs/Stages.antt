-- What the stages of a run leave. A stage that ends the run leaves what is promised of the whole run.
use Rattle.std.specs.Prelude.{◌≡◌, ℕ, Bool, true, false, Result, Ok, Err}
use Rattle.vsw_app.specs.declared.given.Given.{Given}
use Rattle.vsw_files.specs.Answering.{HasAnswered}
use Rattle.vsw_files.specs.Claimed.{HasChecked}
use Rattle.vsw_files.specs.Early.{EndsEarly, HasCommands}
use Rattle.vsw_host.specs.Outside.{Outside}
use Rattle.vsw_run.specs.Exporting.{RunsExport}
use Rattle.vsw_run.specs.IsRun.{Runs, RunsGenerated}
use Rattle.vsw_run.specs.declared.ending.Ending.{Ending}
use Rattle.vsw_run.specs.Words.{Request, Asked, Forward, Deliver, Stream, Offload, Check, Engine, Generate}

-- what the reading of the policy and of the commands leaves
abbrev pub ReadsGiven : Request → Outside → Outside → Result Given Ending → Type 0
ReadsGiven q old new (Ok g) = HasCommands q old new g.policy g.lines
ReadsGiven q old new (Err end) = EndsEarly q old new end

-- the run ended, in which packets are handed on between ports or aren't, and nothing was complained
pub record HasEnded (local : Bool) (q : Request) (old new : Outside) (end : Ending) : Type 0 where
  pub runs : Runs local q old new end
  pub complained : new.complained ≡ old.complained
  pub complain_faults : new.complain_faults ≡ old.complain_faults

-- a run that exports ended, and nothing was complained
pub record HasExported (q : Request) (old new : Outside) (end : Ending) : Type 0 where
  pub runs : RunsExport q old new end
  pub complained : new.complained ≡ old.complained
  pub complain_faults : new.complain_faults ≡ old.complain_faults

-- a run over a generated workload ended, and nothing was complained
pub record HasGenerated (start packets : ℕ) (old new : Outside) (end : Ending) : Type 0 where
  pub runs : RunsGenerated start packets old new end
  pub complained : new.complained ≡ old.complained
  pub complain_faults : new.complain_faults ≡ old.complain_faults

-- a run ended as it was asked for
abbrev pub HasEndedBy : Asked → Outside → Outside → Ending → Type 0
HasEndedBy (Forward q) old new end = HasEnded false q old new end
HasEndedBy (Deliver q) old new end = HasEnded true q old new end
HasEndedBy (Stream q) old new end = HasEnded false q old new end
HasEndedBy (Offload q) old new end = HasExported q old new end
HasEndedBy (Check c) old new end = HasChecked c old new end
HasEndedBy (Engine q) old new end = HasAnswered q old new end
HasEndedBy (Generate start packets) old new end = HasGenerated start packets old new end
