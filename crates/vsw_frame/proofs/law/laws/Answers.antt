use Rattle.vsw_frame.proofs.DifferingHeaders.{differ_tells}
use Rattle.vsw_frame.proofs.law.laws.Goals as goal

pub returns : goal.returns
returns c = record { differ = differ_tells }
