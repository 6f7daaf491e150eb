use Rattle.std.proofs.Common.{arith}
use Rattle.vsw_core.proofs.exporting.append.Goals as goal

pub returns-in-Ok-clause-wide : goal.returns-in-Ok-clause-wide
returns-in-Ok-clause-wide c = record { long = omega (arith, c.told-words); below = c.are_words.ensures }

pub returns-in-Err-clause-wide : goal.returns-in-Err-clause-wide
returns-in-Err-clause-wide c = record { long = omega (arith, c.told-words); below = c.are_words.ensures }
