use Rattle.vsw_rows.proofs.Answers.{answers}
use Rattle.vsw_rows.proofs.law.laws.Goals as goal

pub returns : goal.returns
returns c = record { answers = answers }
