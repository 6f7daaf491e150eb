use Rattle.std.proofs.Common.{refl, true}
use Rattle.vsw_words.proofs.Passes.{none_back, some_back, some_taken}
use Rattle.vsw_words.proofs.reading.take_body.Goals as goal

pub take_last-requires-clause-of : goal.take_last-requires-clause-of
take_last-requires-clause-of c = some_taken _ _ _ _ _ _ _ c.word.ensures c.verdict_of.ensures.value c.in-Some.is c.requires.of.0 c.requires.of.1 c.requires.of.2 c.requires.of.3 c.requires.of.4

pub returns-in-None : goal.returns-in-None
returns-in-None c v by u body e = absurd (none_back _ _ _ _ _ _ c.word.ensures c.verdict_of.ensures.value c.in-None.is v by u body e)

pub returns-in-Some : goal.returns-in-Some
returns-in-Some c v by u body e =
    let t = some_back _ _ _ _ _ _ _ _ _ true c.word.ensures c.of-out.ensures c.verdict_of.ensures.value c.in-Some.is (λ xs b acts are. (refl, c.take_last.ensures xs b acts are)) v by u body e in
    (t.1, t.2, t.3)
