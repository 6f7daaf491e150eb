use Rattle.vsw_many.proofs.Crew.{crew_is_told}
use Rattle.vsw_many.proofs.Turns.{rows_are_own}
use Rattle.vsw_many.proofs.crew_law.crew_laws.Goals as goal

pub returns : goal.returns
returns c = record { rows = rows_are_own; told = crew_is_told }
