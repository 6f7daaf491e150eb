use Rattle.vsw_spares.proofs.Commands.{command_spares}
use Rattle.vsw_spares.proofs.Entries.{entry_spares}
use Rattle.vsw_spares.proofs.Walks.{same_told}
use Rattle.vsw_spares.proofs.law.laws.Goals as goal

pub returns-clause-same : goal.returns-clause-same
returns-clause-same c = same_told

pub returns-clause-spares : goal.returns-clause-spares
returns-clause-spares c = command_spares

pub returns-clause-entry : goal.returns-clause-entry
returns-clause-entry c = entry_spares
