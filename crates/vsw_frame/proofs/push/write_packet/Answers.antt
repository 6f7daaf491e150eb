use Rattle.std.proofs.Common.{arith}
use Rattle.vsw_frame.proofs.Pushes.{packet_written}
use Rattle.vsw_frame.proofs.push.write_packet.Goals as goal

pub returns : goal.returns
returns c =
    let o = c.args.outer.now in
    packet_written c.args.port o.src_ip o.dst_ip o.vni c.args.out.now c.write_ip.new.out c.write_udp_vxlan.new.out c.requires.room (omega arith) c.write_ip.ensures.front c.write_ip.ensures.rest c.write_udp_vxlan.ensures.front c.write_udp_vxlan.ensures.rest
