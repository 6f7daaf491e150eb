use Rattle.vsw_history_law.proofs.Covers.{packets_are_covered, commands_are_covered, rounds_are_small}
use Rattle.vsw_history_law.proofs.law.cover_laws.Goals as goal

pub returns : goal.returns
returns c = record { packets = packets_are_covered; commands = commands_are_covered; few = rounds_are_small }
