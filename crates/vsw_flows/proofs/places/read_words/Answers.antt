use Rattle.std.proofs.Common.{◌≡◌, ◌∙◌, arith, length, sym}
use Rattle.std.proofs.lemmas.List.{take_all}
use Rattle.vsw_table.specs.Rules.{row_at}
use Rattle.vsw_flows.proofs.places.read_words.Goals as goal

pub returns-clause-words : goal.returns-clause-words
returns-clause-words c =
    let place = c.loop-place.place in
    let row = row_at c.args.writer.now.view.rows c.args.row in
    let wide : length row ≡ 73 = c.loop-place.invariant.3 (omega (arith, c.loop-place-test.false)) in
    sym (take_all place c.loop-place.out (omega (arith, c.loop-place.invariant.1, c.loop-place-test.false, c.told-out))) ∙ (c.loop-place.invariant.2 ∙ take_all place row (omega (arith, wide, c.loop-place-test.false)))
