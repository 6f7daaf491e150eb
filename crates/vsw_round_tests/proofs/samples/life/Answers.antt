use Rattle.vsw_round_tests.proofs.Lives.{life_of_a_pair}
use Rattle.vsw_round_tests.proofs.samples.life.Goals as goal

pub returns : goal.returns
returns c = record { swept = life_of_a_pair }
