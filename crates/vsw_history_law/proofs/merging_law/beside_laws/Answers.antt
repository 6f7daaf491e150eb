use Rattle.vsw_history_law.proofs.MergedTexts.{counts_stand_beside, merge_tells_beside, texts_are_by_caller}
use Rattle.vsw_history_law.proofs.merging_law.beside_laws.Goals as goal

pub returns : goal.returns
returns c = record { counts = counts_stand_beside; told = merge_tells_beside; texts = texts_are_by_caller }
