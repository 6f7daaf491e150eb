use Rattle.vsw_dock.proofs.Docked.{docked}
use Rattle.vsw_dock.proofs.Resting.{fit_meets, new_rests, row_rests}
use Rattle.vsw_dock.proofs.law.laws.Goals as goal

pub returns : goal.returns
returns c = record { docked = docked; new = new_rests; fit = fit_meets; rests = row_rests }
