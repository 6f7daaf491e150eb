use Rattle.std.proofs.Common.{arith}
use Rattle.vsw_frame.proofs.Pushes.{encap_written}
use Rattle.vsw_frame.proofs.push.write_encap.Goals as goal

pub returns : goal.returns
returns c =
    let o = c.args.outer.now in
    encap_written c.args.port o.dst o.src o.src_ip o.dst_ip o.vni c.args.out.now c.write_ether.new.out c.write_packet.new.out c.requires.room (omega arith) c.write_ether.ensures.front c.write_ether.ensures.rest c.write_packet.ensures
