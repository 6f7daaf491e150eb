use Rattle.std.proofs.Common.{◌≡◌, ◌<◌, ◌^◌, drop}
use Rattle.std.specs.Str.{all_ascii_digits}
use Rattle.std.specs.Str.Parse.{digits_value_after}
use Rattle.vsw_check.proofs.number.number.Given as goal

abbrev pub invariant-loop-byte : goal.invariant-loop-byte
invariant-loop-byte l = (l.value < 2 ^ 32) × (digits_value_after 10 l.value (drop l.byte-index l.word) ≡ digits_value_after 10 0 l.word) × (all_ascii_digits (drop l.byte-index l.word) ≡ all_ascii_digits l.word)
