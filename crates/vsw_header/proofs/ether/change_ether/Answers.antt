use Rattle.std.proofs.Common.{arith, length-take}
use Rattle.vsw_header.proofs.ether.change_ether.Goals as goal

pub copy_from_slice-requires : goal.copy_from_slice-requires
copy_from_slice-requires c = omega (arith, length-take 12 c.args.bytes.now, c.addresses.ensures.len)
