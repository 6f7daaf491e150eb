use Rattle.std.proofs.Common.{arith, ap}
use Rattle.vsw_table.specs.Rules.{moved}
use Rattle.vsw_table.proofs.Keeps.{leaves, lends}
use Rattle.vsw_table.proofs.steps.lend.Goals as goal

pub split_seat-whole-requires : goal.split_seat-whole-requires
split_seat-whole-requires g c = (
  c.requires.table.1,
  c.requires.table.2,
  leaves g.S.Story.who g.S.Story.good c.args.shared.now.key.opening.value c.args.shared.now.key.rows c.args.pass.now.id c.args.pass.now.me.0 c.requires.pass.0 c.requires.pass.1 c.requires.pass.2 c.requires.pass.3,
)

pub join_seat-requires : goal.join_seat-requires
join_seat-requires g c =
    let w = c.split_seat-whole in (
      c.requires.table.0,
      grind (arith, c.requires.table, w.ensures),
      ap (λ m. m.1) w.ensures.4,
      c.requires.table.2,
      rw (w.ensures.4) (lends g.S.Story.who g.S.Story.good c.args.shared.now.key.opening.value c.args.shared.now.key.rows c.args.writer.now.id c.args.writer.now.me.0 w.result.id (moved c.args.pass.now.me.0) c.requires.writer.0 c.requires.writer.1 c.requires.pass.0 c.requires.pass.1 c.requires.pass.2),
    )
