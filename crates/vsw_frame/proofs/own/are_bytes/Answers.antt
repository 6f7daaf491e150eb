use Rattle.std.proofs.Common.{arith}
use Rattle.vsw_frame.proofs.own.are_bytes.Goals as goal

pub returns : goal.returns
returns c = λ i. grind (arith, c.type_inv.bytes i)
