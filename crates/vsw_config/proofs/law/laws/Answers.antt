use Rattle.vsw_config.proofs.Policies.{each_is_good}
use Rattle.vsw_config.proofs.Versions.{first_is_old}
use Rattle.vsw_config.proofs.law.laws.Goals as goal

pub returns : goal.returns
returns c = record { good = each_is_good; version = first_is_old }
