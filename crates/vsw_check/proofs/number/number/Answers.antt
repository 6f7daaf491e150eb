use Rattle.std.proofs.Common.{sym, arith, get_or}
use Rattle.vsw_check.proofs.Digits.{too_large_here, digit_of}
use Rattle.vsw_check.proofs.number.number.Goals as goal

pub returns-then-more-ge4294967296 : goal.returns-then-more-ge4294967296
returns-then-more-ge4294967296 c =
    let is = digit_of (get_or c.args.word.now c.loop-byte.byte-index 0) c.if-not-is_ascii_digit.ensures.value in
    sym (too_large_here c.args.word.now c.loop-byte.byte-index c.loop-byte.value c.loop-byte-test.true c.loop-byte.invariant.1 (omega (arith, is, c.if-more-ge4294967296.true, c.from.ensures, c.from-in-loop-byte.ensures)))
