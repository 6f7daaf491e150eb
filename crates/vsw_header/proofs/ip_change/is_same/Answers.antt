use Rattle.std.proofs.Common.{arith}
use Rattle.vsw_header.proofs.Unchanged.{ip_stays}
use Rattle.vsw_header.proofs.ip_change.is_same.Goals as goal

pub returns : goal.returns
returns c = λ is.
    let there = c.are_there.ensures is in
    ip_stays c.args.src c.args.dst c.args.bytes.now (λ i. omega (arith, c.type_inv.bytes i)) c.requires there.0 there.1
