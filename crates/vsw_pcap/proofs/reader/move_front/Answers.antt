use Rattle.std.proofs.Common.{◌≡◌, ◌+◌, ◌-◌, take, drop, sym, ap, ◌∙◌, arith, length-drop}
use lib.Seq.{paste}
use Rattle.std.proofs.lemmas.List.{drop-take}
use Rattle.std.proofs.lemmas.List.Edits.{take-paste}
use Rattle.vsw_pcap.proofs.reader.move_front.Goals as goal

pub returns-clause-moved : goal.returns-clause-moved
returns-clause-moved c =
    let all = c.args.room.now.items in
    let from = c.args.from in
    let n = c.args.end - from in
    let same : n ≡ 0 + n = omega arith in
    let whole : from + n ≡ c.args.end = omega (arith, c.requires.order) in
    ap (take n) c.copy_within.ensures.items ∙ ap (λ k. take k (paste all 0 (drop from all) n)) same
    ∙ take-paste all 0 (drop from all) n (omega arith) (omega (arith, c.requires.order, c.requires.within, length-drop from all))
    ∙ sym (drop-take from n all) ∙ ap (λ k. drop from (take k all)) whole
