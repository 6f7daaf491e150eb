use Rattle.std.proofs.Common.{arith}
use Rattle.vsw_core.proofs.CurrentRows.{each_below}
use Rattle.vsw_core.proofs.exporting.are_words.Goals as goal

pub returns : goal.returns
returns c = each_below c.args.words.now (λ i. omega (arith, c.type_inv.words i))
