use Rattle.std.proofs.Common.{arith}
use Rattle.vsw_table.proofs.Keeps.{reads_stamp}
use Rattle.vsw_table.proofs.look.read_stamp.Goals as goal

pub load-requires : goal.load-requires
load-requires g c =
    let z = c.args.shared.now in
    let v = c.args.seat.now in
    let p = c.stamp_place in (
      c.requires.table.0,
      omega (arith, c.requires.table.1, p.ensures.inside),
      rw c.requires.pass.2 (reads_stamp g.S.Story.who g.S.Story.good z.key.opening.value z.key.rows z.table_id.slots v.id v.me.0 c.args.row p.result c.requires.pass.0 c.requires.pass.1 (omega (arith, c.requires.table.2, c.requires.table.3)) p.ensures.place),
    )
