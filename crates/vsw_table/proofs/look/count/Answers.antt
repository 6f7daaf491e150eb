use Rattle.vsw_table.proofs.Keeps.{counts}
use Rattle.vsw_table.proofs.look.count.Goals as goal

pub load-requires : goal.load-requires
load-requires g c =
    let z = c.args.shared.now in
    let v = c.args.seat.now in (
      c.requires.table.0,
      c.requires.table.1,
      rw c.requires.pass.2 (counts g.S.Story.who g.S.Story.good z.key.opening.value z.key.rows z.table_id.slots v.id v.me.0 c.requires.pass.0 c.requires.pass.1),
    )
