use Rattle.vsw_table.proofs.Keeps.{parts}
use Rattle.vsw_table.proofs.steps.part.Goals as goal

pub split_seat-requires : goal.split_seat-requires
split_seat-requires g c =
    let w = c.args.writer.now in (
      c.requires.table.0,
      c.requires.table.1,
      parts g.S.Story.who g.S.Story.good c.args.shared.now.key.opening.value c.args.shared.now.key.rows w.id w.me.0 c.requires.writer.0 c.requires.writer.1 c.requires.writer.2,
    )
