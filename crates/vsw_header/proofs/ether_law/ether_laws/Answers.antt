use Rattle.vsw_header.proofs.EtherBack.{reads_back}
use Rattle.vsw_header.proofs.ether_law.ether_laws.Goals as goal

pub returns : goal.returns
returns c = reads_back
