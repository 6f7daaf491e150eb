use Rattle.std.proofs.Common.{arith, ◌∙◌, length-set}
use Rattle.vsw_table.proofs.Tries.{read_into, top_taken}
use Rattle.vsw_table.proofs.look.read_words.Goals as goal

pub read_word-requires-clause-top : goal.read_word-requires-clause-top
read_word-requires-clause-top g c =
    let v = c.args.seat.now.me.0 in
    rw c.loop-i.invariant.2 (
      top_taken v.tried v.shown.rows c.args.row c.args.from c.loop-i.i c.loop-i.words (omega (arith, c.loop-i-test.true)) c.requires.top.0,
      omega (arith, c.loop-i-test.true, c.loop-i.invariant.1, c.requires.top.1),
      c.requires.top.2,
    )

pub loop-i-preserved : goal.loop-i-preserved
loop-i-preserved g c = (
  c.read_word.ensures.0 ∙ c.loop-i.invariant.0,
  length-set c.loop-i.words c.loop-i.i c.read_word.result ∙ c.loop-i.invariant.1,
  read_into c.args.seat.now.me.0 c.loop-i.i c.read_word.result c.loop-i.words c.loop-i.seat.me c.read_word.new.seat.me (omega (arith, c.loop-i-test.true)) c.loop-i.invariant.2 c.read_word.ensures.1,
)
