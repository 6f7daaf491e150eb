use Rattle.vsw_port.proofs.Alike.{long_alike, sized}
use Rattle.vsw_port.proofs.Edits.{followed}
use Rattle.vsw_port.proofs.admission_law.admission_laws.Goals as goal

pub returns : goal.returns
returns c = record { long = long_alike; sized = sized; followed = followed }
