use Rattle.std.proofs.Common.{◌∙◌, ap, arith, drop, get_or, refl}
use Rattle.vsw_words.specs.Private.Acts.{counted}
use Rattle.vsw_words.proofs.Taken.{told_long}
use Rattle.vsw_words.proofs.Tallied.{late_counted, pop_counted, push_counted, stay_counted, words_at}
use Rattle.vsw_words.proofs.doing.+tally.Goals as goal

pub returns-then-kind-lt4 : goal.returns-then-kind-lt4
returns-then-kind-lt4 t c =
    c.tally.ensures ∙ push_counted c.args.count c.args.words.now c.behind.result.now (c.word-kind.result, get_or c.args.words.now 1 0, get_or c.args.words.now 2 0) c.args.pops c.args.pushes
    (words_at c.args.count c.args.words.now c.behind.result.now c.word-kind.result (omega (arith, c.if-count-eq0.false)) c.word-kind.ensures c.behind.ensures c.requires.told) (omega (arith, c.if-kind-lt4.true))

pub returns-then-kind-eq4 : goal.returns-then-kind-eq4
returns-then-kind-eq4 t c =
    c.tally-then-kind-eq4.ensures ∙ pop_counted c.args.count c.args.words.now c.behind-then-kind-eq4.result.now (c.word-kind.result, get_or c.args.words.now 1 0, get_or c.args.words.now 2 0) c.args.pops c.args.pushes
    (words_at c.args.count c.args.words.now c.behind-then-kind-eq4.result.now c.word-kind.result (omega (arith, c.if-count-eq0.false)) c.word-kind.ensures c.behind-then-kind-eq4.ensures c.requires.told) (omega (arith, c.if-kind-eq4.true))

pub returns-then-pops-pushes-gt0 : goal.returns-then-pops-pushes-gt0
returns-then-pops-pushes-gt0 t c =
    c.counted-then-pops-pushes-gt0.ensures ∙ late_counted c.args.count c.args.words.now (drop 3 c.args.words.now) (c.word-kind.result, get_or c.args.words.now 1 0, get_or c.args.words.now 2 0) c.args.pops c.args.pushes (omega (arith, c.if-pops-pushes-gt0.true))
    (words_at c.args.count c.args.words.now (drop 3 c.args.words.now) c.word-kind.result (omega (arith, c.if-count-eq0.false)) c.word-kind.ensures refl c.requires.told) (omega (arith, c.if-kind-eq4.false, c.if-kind-lt4.false))

pub returns : goal.returns
returns t c =
    c.counted-2.ensures ∙ ap (counted c.args.pops c.args.pushes) c.are_edits.ensures ∙ stay_counted c.args.count c.args.words.now (drop 3 c.args.words.now) (c.word-kind.result, get_or c.args.words.now 1 0, get_or c.args.words.now 2 0) c.args.pops c.args.pushes
    (words_at c.args.count c.args.words.now (drop 3 c.args.words.now) c.word-kind.result (omega (arith, c.if-count-eq0.false)) c.word-kind.ensures refl c.requires.told) (omega (arith, c.if-kind-eq4.false, c.if-kind-lt4.false))

pub word-kind-requires : goal.word-kind-requires
word-kind-requires t c = omega (arith, told_long c.args.count c.args.words.now (omega (arith, c.if-count-eq0.false)) c.requires.told)

pub behind-requires : goal.behind-requires
behind-requires t c = told_long c.args.count c.args.words.now (omega (arith, c.if-count-eq0.false)) c.requires.told

pub behind-requires-then-kind-eq4 : goal.behind-requires-then-kind-eq4
behind-requires-then-kind-eq4 t c = told_long c.args.count c.args.words.now (omega (arith, c.if-count-eq0.false)) c.requires.told
