use Rattle.vsw_many.proofs.Turns.{before_turns, one_caller_turns, quiet_turns, turns_begin, turns_join}
use Rattle.vsw_many.proofs.crew_law.turn_laws.Goals as goal

pub returns : goal.returns
returns c = record { begin = turns_begin; join = turns_join; one = one_caller_turns; quiet = quiet_turns; before = before_turns }
