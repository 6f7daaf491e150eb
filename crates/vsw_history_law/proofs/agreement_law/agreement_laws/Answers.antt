use Rattle.vsw_history_law.proofs.PlainRuns.{fates_are, agrees_alone}
use Rattle.vsw_history_law.proofs.Plenty.{alone_is_plenty}
use Rattle.vsw_history_law.proofs.agreement_law.agreement_laws.Goals as goal

pub returns : goal.returns
returns c = record { plenty = alone_is_plenty; fates = fates_are; agree = agrees_alone }
