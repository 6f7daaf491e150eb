use Rattle.std.proofs.Common.{◌≡◌, ◌*◌, take, length}
use Rattle.hex.specs.Hex.{encode_lower}
use Rattle.vsw_report.proofs.text.write_hex.Given as goal

abbrev pub invariant-loop-i : goal.invariant-loop-i
invariant-loop-i l = record {
  front : take (64 * l.i) l.text ≡ encode_lower (take (32 * l.i) l.bytes);
  long : length l.text ≡ length l.fn.text;
}
