use Rattle.vsw_port.proofs.Values.{callers_are, measured}
use Rattle.vsw_port.proofs.law.samples.Goals as goal

pub returns : goal.returns
returns c = record { callers = callers_are; measured = measured }
