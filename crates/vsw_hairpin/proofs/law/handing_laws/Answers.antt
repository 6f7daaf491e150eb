use Rattle.vsw_hairpin.proofs.Laws.{rows_hand_on, turns_hand_on}
use Rattle.vsw_hairpin.proofs.law.handing_laws.Goals as goal

pub returns : goal.returns
returns c = record { rows = rows_hand_on; turns = turns_hand_on }
