use Rattle.std.proofs.Common.{◌∙◌, arith}
use Rattle.vsw_header.proofs.Folds.{fresh_is}
use Rattle.vsw_header.proofs.sum.fresh.Goals as goal

pub returns : goal.returns
returns c = c.complement.ensures ∙ fresh_is c.args.bytes.now c.added.result (λ i. omega (arith, c.type_inv.bytes i)) c.added.ensures
