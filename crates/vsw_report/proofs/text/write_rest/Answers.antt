use Rattle.std.proofs.Common.{◌≡◌, ◌+◌, ◌-◌, ◌*◌, ◌/◌, ℕ, arith, refl, drop, take, length}
use Rattle.std.proofs.lemmas.List.{length-drop, length-take-le}
use Rattle.vsw_report.proofs.Next.{last_block}
use Rattle.vsw_report.proofs.text.write_rest.Goals as goal

pub returns : goal.returns
returns c =
    let bytes = c.args.bytes.now in
    let text = c.args.text.now in
    let m : ℕ = length bytes - 32 in
    let long : m + 32 ≡ length bytes = omega (arith, c.if-bytes-lt32.false) in
    last_block m (length bytes / 32) (length text - 2 * m) bytes text (take (length text - 2 * m) (drop (2 * m) text)) c.write_lanes.new.text long refl (omega (arith, c.requires.long, long, length-drop (2 * m) text, length-take-le (length text - 2 * m) (drop (2 * m) text) (omega (arith, length-drop (2 * m) text)))) (omega (arith, c.requires.long, long)) c.requires.front c.write_lanes.ensures
