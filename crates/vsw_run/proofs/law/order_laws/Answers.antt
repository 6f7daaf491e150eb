use Rattle.vsw_run.proofs.Ordered.{rounds_are_told}
use Rattle.vsw_run.proofs.law.order_laws.Goals as goal

pub returns : goal.returns
returns c = record { told = rounds_are_told }
