use Rattle.vsw_history_law.proofs.MergedTexts.{counts_stand, merge_tells}
use Rattle.vsw_history_law.proofs.merging_law.merging_laws.Goals as goal

pub returns : goal.returns
returns c = record { counts = counts_stand; told = merge_tells }
