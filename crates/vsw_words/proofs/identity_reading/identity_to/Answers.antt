use Rattle.std.proofs.Common.{arith, ap, ◌∙◌}
use Rattle.vsw_words.specs.Loose.{head_of}
use Rattle.vsw_words.proofs.Loosely.{is_back}
use Rattle.vsw_words.proofs.identity_reading.identity_to.Goals as goal

pub returns-clause-back : goal.returns-clause-back
returns-clause-back c id h e = is_back c.args.key.now (omega (arith, c.told-key)) c.head_of-head.result (c.head_of-head.ensures ∙ ap head_of c.word.ensures) c.rewrite.new.self c.rewrite.ensures c.has_words.result c.has_words.ensures.back id h e
