use Rattle.std.proofs.Common.{◌∙◌}
use Rattle.vsw_words.proofs.Read.{until_is}
use Rattle.vsw_words.proofs.verdict.until_in.Goals as goal

pub returns : goal.returns
returns c v by u is = c.of.ensures ∙ c.word.ensures ∙ until_is c.args.words.now v by u is
