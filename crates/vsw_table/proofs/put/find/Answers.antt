use Rattle.vsw_table.proofs.Keeps.{finds}
use Rattle.vsw_table.proofs.put.find.Goals as goal

pub load-requires : goal.load-requires
load-requires g c =
    let z = c.args.shared.now in
    let w = c.args.writer.now in (
      c.requires.table.0,
      c.requires.table.1,
      rw c.requires.writer.1 (finds g.S.Story.who g.S.Story.good z.key.opening.value z.key.rows z.table_id.slots w.id w.me.0 c.args.place c.requires.writer.0),
    )
