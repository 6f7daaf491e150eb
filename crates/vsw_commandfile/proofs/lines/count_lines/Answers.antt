use Rattle.std.proofs.Common.{inl, arith}
use Rattle.vsw_commandfile.proofs.Cuts.{few_lines}
use Rattle.vsw_commandfile.proofs.lines.count_lines.Goals as goal

pub count-requires-clause-fits : goal.count-requires-clause-fits
count-requires-clause-fits c = rw c.of.ensures (inl (omega (arith, few_lines c.args.bytes.now)))
