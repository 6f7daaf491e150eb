use Rattle.vsw_run.proofs.Well.{done_ran_well}
use Rattle.vsw_run.proofs.law.done_laws.Goals as goal

pub returns : goal.returns
returns c = record { well = done_ran_well }
