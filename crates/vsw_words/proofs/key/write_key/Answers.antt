use Rattle.std.proofs.Common.{◌∙◌, arith}
use Rattle.vsw_words.proofs.Leveled.{short_fits, short_words}
use Rattle.vsw_words.proofs.key.write_key.Goals as goal

pub returns-then-headers-le3-clause-words : goal.returns-then-headers-le3-clause-words
returns-then-headers-le3-clause-words c = c.write_plain.ensures.words ∙ short_words c.args.headers.now c.requires (omega (arith, c.if-headers-le3.true)) c.args.dir

pub returns-then-headers-le3-clause-fit : goal.returns-then-headers-le3-clause-fit
returns-then-headers-le3-clause-fit c =
    short_fits c.args.headers.now c.requires (omega (arith, c.if-headers-le3.true)) c.write_plain.ensures.first c.write_plain.ensures.second c.write_plain.ensures.six c.write_plain.ensures.third
