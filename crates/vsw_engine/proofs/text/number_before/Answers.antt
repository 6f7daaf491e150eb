use Rattle.std.proofs.Common.{arith}
use Rattle.vsw_report.proofs.Digits.{ten_digits}
use Rattle.vsw_engine.proofs.text.number_before.Goals as goal

pub write_digits-requires : goal.write_digits-requires
write_digits-requires c =
    let short = ten_digits c.from.result (omega (arith, c.from.ensures, c.ranges.n.fits)) in
    (omega (arith, short, c.requires.0), c.requires.1)

pub returns-clause-start : goal.returns-clause-start
returns-clause-start c =
    let short = ten_digits c.from.result (omega (arith, c.from.ensures, c.ranges.n.fits)) in
    let start = c.write_digits.ensures.start in
    (omega (arith, start), omega (arith, short, start))
