use Rattle.std.proofs.Common.{arith, subst, ◌+◌, ◌∙◌, ◌≡◌, [], length, refl, suc, slice_set}
use Rattle.vsw_table.specs.Rules.{row_at}
use Rattle.vsw_table.proofs.Words.{wide_at}
use Rattle.vsw_table.proofs.Puts.{mixed, put_next, put_last, mixed_rows}
use Rattle.vsw_table.proofs.put.put_row.Goals as goal

pub put_word-requires-clause-writer : goal.put_word-requires-clause-writer
put_word-requires-clause-writer g c =
    let v = c.args.writer.now.me.0 in
    rw c.loop-word.invariant.1 (
      c.requires.writer.0,
      refl,
      mixed_rows v c.args.rows c.args.row c.loop-word.word c.args.words.now c.requires.writer.2 c.requires.place (omega (arith, c.type_inv.words)) (omega (arith, c.loop-word-test.true)),
    )

pub loop-word-preserved : goal.loop-word-preserved
loop-word-preserved g c =
    let v = c.args.writer.now.me.0 in
    let words = c.args.words.now in
    let k = c.loop-word.word in
    let old : length (row_at v.rows c.args.row) ≡ 73 = wide_at v.rows c.args.row c.requires.writer.2.2 (omega (arith, c.requires.writer.2.1, c.requires.place)) in
    let next = put_next v c.args.row k words c.loop-word.writer.me c.put_word.new.writer.me (omega (arith, c.requires.writer.2.1, c.requires.place)) (omega (arith, c.loop-word-test.true, c.type_inv.words)) (omega (arith, old, c.type_inv.words))
    c.loop-word.invariant.1 c.put_word.ensures.1 in
    let up : suc k ≡ k + 1 = omega arith in (
      c.put_word.ensures.0 ∙ c.loop-word.invariant.0,
      subst (λ m. c.put_word.new.writer.me ≡ (record v { rows = slice_set v.rows c.args.row (mixed m words (row_at v.rows c.args.row)) }, [])) up next,
    )

pub returns : goal.returns
returns g c =
    let v = c.args.writer.now.me.0 in
    let old : length (row_at v.rows c.args.row) ≡ 73 = wide_at v.rows c.args.row c.requires.writer.2.2 (omega (arith, c.requires.writer.2.1, c.requires.place)) in (
      c.loop-word.invariant.0,
      put_last v c.args.row c.loop-word.word c.args.words.now c.loop-word.writer.me (omega (arith, c.told-words, c.loop-word-test.false)) (omega (arith, old, c.loop-word-test.false)) c.loop-word.invariant.1,
    )
