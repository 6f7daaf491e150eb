use Rattle.vsw_report.proofs.OneCaller.{one_in_order}
use Rattle.vsw_report.proofs.merging_law.merging_laws.Goals as goal

pub returns : goal.returns
returns c = record { one = one_in_order }
