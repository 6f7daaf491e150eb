use Rattle.vsw_words.proofs.Written.{body_is}
use Rattle.vsw_words.proofs.row.write_body.Goals as goal

pub returns-clause-words : goal.returns-clause-words
returns-clause-words c = body_is c.args.verdict.now c.args.by.now c.args.until c.verdict_word.result c.micros.result c.count_of.result c.args.out.now c.copy_from_slice.new.self c.write_last.new.out c.copy_from_slice.ensures.after c.verdict_word.ensures.word c.micros.ensures c.count_of.ensures c.write_last.ensures.words
