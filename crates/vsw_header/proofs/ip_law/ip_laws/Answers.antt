use Rattle.vsw_header.proofs.IpBack.{checks, reads_back}
use Rattle.vsw_header.proofs.IpRight.{ip_stays_right, ip_stays_wrong}
use Rattle.vsw_header.proofs.ip_law.ip_laws.Goals as goal

pub returns-clause-reads_back : goal.returns-clause-reads_back
returns-clause-reads_back c = reads_back

pub returns-clause-checks : goal.returns-clause-checks
returns-clause-checks c = checks

pub returns-clause-right : goal.returns-clause-right
returns-clause-right c = ip_stays_right

pub returns-clause-wrong : goal.returns-clause-wrong
returns-clause-wrong c = ip_stays_wrong
