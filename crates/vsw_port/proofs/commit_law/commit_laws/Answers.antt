use Rattle.vsw_port.proofs.Moved.{changes_tell}
use Rattle.vsw_port.proofs.commit_law.commit_laws.Goals as goal

pub returns : goal.returns
returns c = changes_tell
