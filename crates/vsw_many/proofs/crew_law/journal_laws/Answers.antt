use Rattle.vsw_many.proofs.Turns.{journals_begin, journals_end, journals_join}
use Rattle.vsw_many.proofs.crew_law.journal_laws.Goals as goal

pub returns : goal.returns
returns c = record { begin = journals_begin; end = journals_end; join = journals_join }
