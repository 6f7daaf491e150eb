use Rattle.vsw_history_law.proofs.Short.{entries_are_jobs, histories_are_short}
use Rattle.vsw_history_law.proofs.law.short_laws.Goals as goal

pub returns : goal.returns
returns c = record { entries = entries_are_jobs; short = histories_are_short }
