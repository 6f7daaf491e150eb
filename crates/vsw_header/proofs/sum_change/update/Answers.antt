use Rattle.std.proofs.Common.{◌∙◌, arith}
use Rattle.vsw_header.proofs.Changed.{updated_is}
use Rattle.vsw_header.proofs.sum_change.update.Goals as goal

pub returns : goal.returns
returns c = c.complement.ensures ∙ updated_is c.args.old c.loop-i.sum c.loop-i.i c.args.from.now c.args.to.now (λ j. omega (arith, c.type_inv.to j)) (omega arith) c.loop-i.invariant
