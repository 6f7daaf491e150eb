use Rattle.vsw_table.proofs.Puts.{word_found}
use Rattle.vsw_table.proofs.put.word_of.Goals as goal

pub returns-clause-word : goal.returns-clause-word
returns-clause-word g c = word_found c.args.writer.now.me.0 c.args.rows c.args.row c.args.word c.find.result c.word_place.result c.requires.writer.2 c.requires.table.2 c.requires.table.3 c.word_place.ensures.place c.find.ensures.word.0
