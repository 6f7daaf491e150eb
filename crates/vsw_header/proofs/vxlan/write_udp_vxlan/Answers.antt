use Rattle.std.proofs.Common.{arith, length-take}
use Rattle.vsw_header.proofs.vxlan.write_udp_vxlan.Goals as goal

pub copy_from_slice-requires : goal.copy_from_slice-requires
copy_from_slice-requires c = omega (arith, length-take 16 c.args.out.now, c.header.ensures.len)
