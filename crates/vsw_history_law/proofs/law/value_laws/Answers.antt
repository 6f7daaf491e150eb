use Rattle.vsw_history_law.proofs.Values.{one_value}
use Rattle.vsw_history_law.proofs.law.value_laws.Goals as goal

pub returns : goal.returns
returns c = record { rounds = one_value }
