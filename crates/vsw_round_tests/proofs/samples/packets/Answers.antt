use Rattle.vsw_round_tests.proofs.Passed.{one_packet, no_packet}
use Rattle.vsw_round_tests.proofs.samples.packets.Goals as goal

pub returns : goal.returns
returns c = record { one = one_packet; none = no_packet }
