use Rattle.vsw_words.proofs.Read.{verdict_is, verdict_there}
use Rattle.vsw_words.proofs.verdict.verdict_in.Goals as goal

pub returns-in-Some : goal.returns-in-Some
returns-in-Some c = verdict_is c.args.words.now c.word.result c.word-2.result c.verdict_of.result c.in-Some.verdict c.word.ensures c.word-2.ensures c.verdict_of.ensures.value c.in-Some.is

pub returns-in-None : goal.returns-in-None
returns-in-None c v by u is = absurd (verdict_there c.args.words.now c.word.result c.word-2.result c.verdict_of.result c.word.ensures c.word-2.ensures c.verdict_of.ensures.value c.in-None.is v by u is)
