use Rattle.vsw_many.proofs.Passes.{locked_calls_cross, locked_meets}
use Rattle.vsw_many.proofs.law.lock_laws.Goals as goal

pub returns : goal.returns
returns c = record { crosses = locked_calls_cross; meets = locked_meets }
