use Rattle.vsw_history_law.proofs.OneLine.{each_has_its_line}
use Rattle.vsw_history_law.proofs.law.line_laws.Goals as goal

pub returns : goal.returns
returns c = record { one = each_has_its_line }
