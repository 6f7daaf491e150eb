use Rattle.vsw_config_tests.proofs.Reading.{is_read}
use Rattle.vsw_config_tests.proofs.law.laws.Goals as goal

pub returns : goal.returns
returns c = is_read
