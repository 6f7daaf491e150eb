use Rattle.std.proofs.Common.{arith, ◌∙◌}
use Rattle.vsw_table.proofs.Keeps.{shakes}
use Rattle.vsw_table.proofs.put.shake_row.Goals as goal

pub store-requires : goal.store-requires
store-requires g c =
    let z = c.args.shared.now in
    let w = c.stamp_of.new.writer in
    let v = c.args.writer.now in
    let p = c.stamp_place in (
      c.stamp_of.ensures.seat.0 ∙ c.requires.table.0,
      omega (arith, c.requires.table.1, p.ensures.inside),
      rw (c.stamp_of.ensures.seat.1, c.requires.writer.1) (shakes g.S.Story.who g.S.Story.good z.key.opening.value z.key.rows z.table_id.slots w.id v.me.0 c.args.row p.result c.requires.writer.0 (omega (arith, c.requires.table.3, c.requires.table.2)) p.ensures.place),
    )
