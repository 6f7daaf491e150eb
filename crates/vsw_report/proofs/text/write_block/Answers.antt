use Rattle.std.proofs.Common.{List, ℕ, ◌+◌, ◌*◌, ◌-◌, ◌∙◌, ap, arith, take, drop, length}
use borrow.Rule.Slice.PartMut.{put_mid}
use Rattle.hex.specs.Hex.{encode_lower}
use Rattle.vsw_report.proofs.Next.{next_front, block_long}
use Rattle.vsw_report.proofs.text.write_block.Goals as goal

pub returns-clause-front : goal.returns-clause-front
returns-clause-front c =
    let i = c.args.i in
    let text = c.args.text.now in
    let bytes = c.args.bytes.now in
    ap (λ (l : List ℕ). take (64 * (i + 1)) (put_mid (64 * i) (length text - 64 * i) text l)) c.write_lanes.ensures
    ∙ next_front (64 * i) (64 * (i + 1)) text (encode_lower (take 32 (drop (32 * i) bytes))) _ _ (omega (arith, c.requires.text)) (omega (arith, block_long bytes i c.requires.bytes))
