use Rattle.vsw_round_tests.proofs.Answered.{replies}
use Rattle.vsw_round_tests.proofs.samples.replies.Goals as goal

pub returns : goal.returns
returns c = record { found = replies }
