use Rattle.vsw_core.proofs.Compared.{packet_read}
use Rattle.vsw_core.proofs.reconciling.read_packet.Goals as goal

pub returns-in-Some : goal.returns-in-Some
returns-in-Some c r s = packet_read c.args.words.now c.in-Some.key.now c.identity_to.result c.identity_to.new.out c.of-out.result c.in-Some.ensures.cases.same c.of-out.ensures c.identity_to.ensures.back r s
