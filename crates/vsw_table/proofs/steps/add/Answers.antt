use Rattle.std.proofs.Common.{◌+◌, refl}
use Rattle.vsw_table.proofs.Keeps.{adds}
use Rattle.vsw_table.proofs.steps.add.Goals as goal

pub compare_exchange_with-requires : goal.compare_exchange_with-requires
compare_exchange_with-requires g c =
    let z = c.args.shared.now in
    let w = c.args.writer.now in (
      c.requires.table.0,
      c.requires.table.1,
      rw c.requires.writer.2 (adds g.S.Story.who g.S.Story.good z.key.opening.value z.key.rows z.table_id.slots w.id w.me.0 c.args.entry.now c.args.word (c.args.word + 1) c.requires.writer.0 c.requires.writer.1 c.requires.entry.1 c.requires.entry.0 c.requires.word.0 refl c.requires.stays),
    )
