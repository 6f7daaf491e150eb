use Rattle.vsw_commandfile.proofs.LinesRead.{each_is_good, first_is_old}
use Rattle.vsw_commandfile.proofs.CutLines.{each_is_cut}
use Rattle.vsw_commandfile.proofs.law.laws.Goals as goal

pub returns : goal.returns
returns c = record { good = each_is_good; cut = each_is_cut; version = first_is_old }
