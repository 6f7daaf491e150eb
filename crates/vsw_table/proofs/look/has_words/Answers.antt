use Rattle.std.proofs.Common.{arith, ◌∙◌, ◌++◌, ◌∷◌, [], take}
use Rattle.vsw_table.proofs.Tries.{differs, read_more, read_next, top_taken}
use Rattle.vsw_table.proofs.look.has_words.Goals as goal

pub returns-then-word-wanted : goal.returns-then-word-wanted
returns-then-word-wanted g c =
    let wanted = c.args.wanted.now in
    let i = c.loop-i.i in
    let r = c.read_word-word.result in
    let d = differs wanted i r c.loop-i-test.true c.if-word-wanted.true in (
      c.read_word-word.ensures.0 ∙ c.loop-i.invariant.0,
      (take i wanted ++ r ∷ [], read_more c.args.seat.now.me.0 (take i wanted) (r ∷ []) c.loop-i.seat.me c.read_word-word.new.seat.me c.loop-i.invariant.1 c.read_word-word.ensures.1, (i, d.0, c.loop-i-test.true, d.1)),
    )

pub read_word-word-requires-clause-top : goal.read_word-word-requires-clause-top
read_word-word-requires-clause-top g c =
    let v = c.args.seat.now.me.0 in
    rw c.loop-i.invariant.1 (
      top_taken v.tried v.shown.rows c.args.row c.args.from c.loop-i.i c.args.wanted.now (omega (arith, c.loop-i-test.true)) c.requires.top.0,
      omega (arith, c.loop-i-test.true, c.requires.top.1),
      c.requires.top.2,
    )

pub loop-i-preserved : goal.loop-i-preserved
loop-i-preserved g c = (
  c.read_word-word.ensures.0 ∙ c.loop-i.invariant.0,
  read_next c.args.seat.now.me.0 c.loop-i.i c.read_word-word.result c.args.wanted.now c.loop-i.seat.me c.read_word-word.new.seat.me c.loop-i-test.true c.if-word-wanted.false c.loop-i.invariant.1 c.read_word-word.ensures.1,
)
