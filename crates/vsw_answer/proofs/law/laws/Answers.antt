use Rattle.vsw_answer.proofs.Fates.{measures}
use Rattle.vsw_answer.proofs.law.laws.Goals as goal

pub returns : goal.returns
returns c = record { measures = measures }
