use Rattle.vsw_rows.proofs.Alike.{alike}
use Rattle.vsw_rows.proofs.words_law.words_laws.Goals as goal

pub returns : goal.returns
returns c = alike
