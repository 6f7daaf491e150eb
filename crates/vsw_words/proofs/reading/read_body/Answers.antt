use Rattle.vsw_words.proofs.Passes.{none_back, some_told, some_back}
use Rattle.vsw_words.proofs.reading.read_body.Goals as goal

pub returns-in-None-clause-back : goal.returns-in-None-clause-back
returns-in-None-clause-back c v by u body e = absurd (none_back _ _ _ _ _ _ c.word.ensures c.verdict_of.ensures.value c.in-None.is v by u body e)

pub returns-in-Some-clause-told : goal.returns-in-Some-clause-told
returns-in-Some-clause-told c done = some_told _ _ _ _ _ _ _ _ c.word.ensures c.of-out.ensures c.in-Some.ensures.word (c.read_last.ensures.told done)

pub returns-in-Some-clause-back : goal.returns-in-Some-clause-back
returns-in-Some-clause-back c = some_back _ _ _ _ _ _ _ _ _ _ c.word.ensures c.of-out.ensures c.verdict_of.ensures.value c.in-Some.is c.read_last.ensures.back
