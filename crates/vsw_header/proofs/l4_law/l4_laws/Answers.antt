use Rattle.vsw_header.proofs.L4Back.{reads_udp_back, reads_vni_back}
use Rattle.vsw_header.proofs.L4Right.{tcp_stays_right, tcp_stays_wrong}
use Rattle.vsw_header.proofs.UdpRight.{udp_stays_right, udp_stays_with, udp_stays_without, udp_stays_wrong}
use Rattle.vsw_header.proofs.l4_law.l4_laws.Goals as goal

pub returns-clause-udp : goal.returns-clause-udp
returns-clause-udp c = reads_udp_back

pub returns-clause-vni : goal.returns-clause-vni
returns-clause-vni c = reads_vni_back

pub returns-clause-tcp_right : goal.returns-clause-tcp_right
returns-clause-tcp_right c = tcp_stays_right

pub returns-clause-tcp_wrong : goal.returns-clause-tcp_wrong
returns-clause-tcp_wrong c = tcp_stays_wrong

pub returns-clause-udp_right : goal.returns-clause-udp_right
returns-clause-udp_right c = udp_stays_right

pub returns-clause-udp_wrong : goal.returns-clause-udp_wrong
returns-clause-udp_wrong c = udp_stays_wrong

pub returns-clause-udp_without : goal.returns-clause-udp_without
returns-clause-udp_without c = udp_stays_without

pub returns-clause-udp_with : goal.returns-clause-udp_with
returns-clause-udp_with c = udp_stays_with
