use Rattle.vsw_many.proofs.Splits.{split_is_counted, split_is_merged}
use Rattle.vsw_many.proofs.crew_law.split_laws.Goals as goal

pub returns : goal.returns
returns c = record { merged = split_is_merged; counted = split_is_counted }
