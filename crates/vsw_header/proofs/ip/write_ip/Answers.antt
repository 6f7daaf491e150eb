use Rattle.std.proofs.Common.{arith, length-take}
use Rattle.vsw_header.proofs.ip.write_ip.Goals as goal

pub copy_from_slice-requires : goal.copy_from_slice-requires
copy_from_slice-requires c = omega (arith, length-take 20 c.args.out.now, c.header-2.ensures.len)
