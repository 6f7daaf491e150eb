use Rattle.std.proofs.Common.{subst, sym}
use Rattle.vsw_core.proofs.Walked.{fresh_row}
use Rattle.vsw_rows.specs.Rows.{IsFresh, layers_after}
use Rattle.vsw_core.proofs.writing.write_row.Goals as goal

pub put-requires-clause-fresh : goal.put-requires-clause-fresh
put-requires-clause-fresh c =
    let ls = layers_after c.args.lookup.now.1 c.args.rows.now.view.history in
    subst (IsFresh ls c.words_of.new.rooms.words) (sym c.looked.ensures) (fresh_row ls c.args.crossing.now c.args.walked.now c.args.scratch.now c.words_of.new.rooms.words c.requires.walk (c.words_of.ensures.row ls c.requires.walk))
