use Rattle.std.proofs.Common.{arith}
use Rattle.vsw_table.proofs.Keeps.{grants, meets}
use Rattle.vsw_table.proofs.steps.grant.Goals as goal

pub fetch_max-requires : goal.fetch_max-requires
fetch_max-requires g c =
    let z = c.args.shared.now in
    let w = c.args.writer.now in (
      c.requires.table.0,
      c.requires.table.1,
      rw (c.requires.writer.2, c.from.ensures) (grants g.S.Story.who g.S.Story.good z.key.opening.value z.key.rows z.table_id.slots w.id w.me.0 c.args.more c.requires.writer.0 c.requires.writer.1 (omega (arith, c.ranges.more.fits)) c.requires.room),
    )

pub load-requires : goal.load-requires
load-requires g c =
    let z = c.args.shared.now in
    let w = c.args.writer.now in (
      c.requires.table.0,
      c.requires.table.1,
      rw c.requires.writer.2 (meets g.S.Story.who g.S.Story.good z.key.opening.value z.key.rows z.table_id.slots w.id w.me.0 c.requires.writer.0 c.requires.writer.1 (omega (arith, c.requires.room))),
    )

pub returns-then-more-eq0-clause-tells : goal.returns-then-more-eq0-clause-tells
returns-then-more-eq0-clause-tells g c = c.load.ensures.2.2 c.args.shared.now.key.opening.value c.requires.opens

pub returns-clause-tells : goal.returns-clause-tells
returns-clause-tells g c = c.fetch_max.ensures.2.2 c.args.shared.now.key.opening.value c.requires.opens
