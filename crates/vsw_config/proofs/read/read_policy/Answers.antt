use Rattle.vsw_config.proofs.Policies.{told_good}
use Rattle.vsw_config.proofs.read.read_policy.Goals as goal

pub returns-clause-good : goal.returns-clause-good
returns-clause-good c = told_good c.args.bytes.now _ c.whole_file.ensures
