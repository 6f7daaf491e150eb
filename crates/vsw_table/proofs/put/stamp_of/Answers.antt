use Rattle.vsw_table.proofs.Puts.{stamp_found}
use Rattle.vsw_table.proofs.put.stamp_of.Goals as goal

pub returns-clause-stamp : goal.returns-clause-stamp
returns-clause-stamp g c = stamp_found c.args.writer.now.me.0 c.args.rows c.args.row c.find.result c.stamp_place.result c.requires.writer.2 c.requires.table.2 c.stamp_place.ensures.place c.find.ensures.word.0
