use Rattle.std.proofs.Common.{arith, ◌+◌, ◌∙◌, ap, sym}
use Rattle.vsw_table.proofs.Keeps.{restamps}
use Rattle.vsw_table.proofs.put.renew_row.Goals as goal

pub store-requires : goal.store-requires
store-requires g c =
    let z = c.args.shared.now in
    let v = c.args.writer.now in
    let p = c.stamp_place in (
      c.requires.table.0,
      omega (arith, c.requires.table.1, p.ensures.inside),
      rw c.requires.writer.1 (restamps g.S.Story.who g.S.Story.good z.key.opening.value z.key.rows z.table_id.slots v.id v.me.0 c.args.row p.result (c.args.given + 1) c.requires.writer.0 (omega (arith, c.requires.table.2, c.requires.table.3)) p.ensures.place (omega (arith, c.requires.given)) (omega (arith, c.requires.given, c.if-given-eq18446744073709551615.false, c.ranges.given.fits)) c.requires.zero c.requires.good),
    )

pub returns-clause-given : goal.returns-clause-given
returns-clause-given g c = ap (λ n. n + 1) c.requires.given ∙ sym (ap (λ m. m.0.given) (c.store.ensures.2 c.args.row c.stamp_place.ensures.place))
