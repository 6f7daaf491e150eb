use Rattle.vsw_policy.proofs.Stays.{none-marked}
use Rattle.vsw_policy.proofs.gone.unmarked.Goals as goal

pub returns-clause-none : goal.returns-clause-none
returns-clause-none c n = none-marked 65536 n
