use Rattle.std.proofs.Common.{arith}
use Rattle.vsw_check.proofs.Hex.{digit_here, no_digit_here}
use Rattle.vsw_check.proofs.decode.digit.Goals as goal

pub returns-then-value-lt16 : goal.returns-then-value-lt16
returns-then-value-lt16 c = digit_here c.args.byte c.from.result (omega (arith, c.ranges.byte.fits)) c.from.ensures c.if-value-lt16.true

pub returns-else-value-lt16 : goal.returns-else-value-lt16
returns-else-value-lt16 c = no_digit_here c.args.byte c.from.result (omega (arith, c.ranges.byte.fits)) c.from.ensures c.if-value-lt16.false
