use Rattle.vsw_many.proofs.Rounds.{run_is_told}
use Rattle.vsw_many.proofs.law.run_laws.Goals as goal

pub returns : goal.returns
returns c = record { run = run_is_told }
