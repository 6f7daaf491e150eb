use Rattle.vsw_rows.proofs.Leaves.{entries_leave, entry_leaves}
use Rattle.vsw_rows.proofs.growing_law.growing_laws.Goals as goal

pub returns-clause-entry : goal.returns-clause-entry
returns-clause-entry c = entry_leaves

pub returns-clause-entries : goal.returns-clause-entries
returns-clause-entries c = entries_leave
