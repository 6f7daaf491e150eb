use Rattle.std.proofs.Common.{◌∙◌, ◌+◌, length, arith}
use Rattle.vsw_header.proofs.Folds.{pseudo_is}
use Rattle.vsw_header.proofs.sum.pseudo.Goals as goal

pub returns : goal.returns
returns c = c.complement.ensures ∙ pseudo_is c.args.bytes.now c.added.result (c.from.result + c.from-2.result + c.from-3.result + length c.args.bytes.now) c.args.src c.args.dst c.args.proto (length c.args.bytes.now) (λ i. omega (arith, c.type_inv.bytes i)) (omega arith) (omega arith) (omega arith) (omega arith) (omega arith) c.added.ensures
