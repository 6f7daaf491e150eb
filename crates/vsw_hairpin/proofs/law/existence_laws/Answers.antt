use Rattle.vsw_hairpin.proofs.Existing.{rounds_are_there, rounds_go_on}
use Rattle.vsw_hairpin.proofs.Laws.{turns_hand_on}
use Rattle.vsw_hairpin.proofs.law.existence_laws.Goals as goal

pub returns : goal.returns
returns c = record { on = rounds_go_on turns_hand_on; there = rounds_are_there turns_hand_on }
