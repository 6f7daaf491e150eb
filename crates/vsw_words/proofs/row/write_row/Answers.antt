use Rattle.vsw_words.proofs.Written.{row_is}
use Rattle.vsw_words.proofs.row.write_row.Goals as goal

pub returns-clause-words : goal.returns-clause-words
returns-clause-words c = row_is c.args.id.now c.args.verdict.now c.args.by.now c.args.until c.args.out.now c.key_words.new.out c.copy_from_slice.new.self c.write_body.new.out c.copy_from_slice.ensures.after c.key_words.ensures.words c.key_words.array_long c.write_body.ensures.words
