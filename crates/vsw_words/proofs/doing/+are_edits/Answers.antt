use Rattle.std.proofs.Common.{◌∙◌, arith, drop, get_or, refl}
use Rattle.vsw_words.proofs.Taken.{told_long}
use Rattle.vsw_words.proofs.Tallied.{none_edited, one_edited, words_at}
use Rattle.vsw_words.proofs.doing.+are_edits.Goals as goal

pub returns-then-word-eq8 : goal.returns-then-word-eq8
returns-then-word-eq8 t c =
    c.are_edits.ensures ∙ none_edited c.args.count c.args.words.now c.behind.result.now (c.word.result, get_or c.args.words.now 1 0, get_or c.args.words.now 2 0)
    (words_at c.args.count c.args.words.now c.behind.result.now c.word.result (omega (arith, c.if-count-eq0.false)) c.word.ensures c.behind.ensures c.requires.told) (omega (arith, c.if-word-eq8.true))

pub returns-else-word-eq8 : goal.returns-else-word-eq8
returns-else-word-eq8 t c =
    one_edited c.args.count c.args.words.now (drop 3 c.args.words.now) (c.word.result, get_or c.args.words.now 1 0, get_or c.args.words.now 2 0)
    (words_at c.args.count c.args.words.now (drop 3 c.args.words.now) c.word.result (omega (arith, c.if-count-eq0.false)) c.word.ensures refl c.requires.told) (λ e. omega (arith, c.if-word-eq8.false, e))

pub word-requires : goal.word-requires
word-requires t c = omega (arith, told_long c.args.count c.args.words.now (omega (arith, c.if-count-eq0.false)) c.requires.told)

pub behind-requires : goal.behind-requires
behind-requires t c = told_long c.args.count c.args.words.now (omega (arith, c.if-count-eq0.false)) c.requires.told
