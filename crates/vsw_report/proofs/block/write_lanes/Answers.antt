use Rattle.std.proofs.Common.{List, ℕ, ap, ap₂, ◌∙◌, ◌++◌, drop, w8}
use Rattle.std.proofs.lemmas.Simd.{chunk-fits}
use Rattle.std.proofs.lemmas.List.{take-append-drop}
use lib.Lanes.{chunk}
use Rattle.vsw_report.specs.Digit.{zipped}
use Rattle.vsw_report.proofs.ThirtyTwo.{stored_is, zipped_is}
use Rattle.vsw_report.proofs.block.write_lanes.Goals as goal

pub returns : goal.returns
returns c =
    let t = c.args.text.now in
    let v = chunk c.args.from 32 c.args.bytes.now in
    let z = ap₂ zipped c.highs-high.ensures c.lows-low.ensures in
    stored_is t c.front.result c.back.result c.front.ensures.long c.back.ensures.long c.requires.text
    ∙ ap (λ (l : List ℕ). l ++ drop 64 t) (ap₂ (λ a b. a ++ b) c.front.ensures.lanes c.back.ensures.lanes
    ∙ (take-append-drop 32 (zipped c.highs-high.result c.lows-low.result)
    ∙ (z ∙ zipped_is v (chunk-fits w8 c.args.from 32 c.args.bytes.now c.type_inv.bytes))))
