use Rattle.std.proofs.Common.{subst, sym}
use Rattle.vsw_core.proofs.Compared.{kept_fresh}
use Rattle.vsw_table.specs.Rules.{row_at}
use Rattle.vsw_rows.specs.Rows.{IsFresh, layers_after}
use Rattle.vsw_core.proofs.reconciling.keep.Goals as goal

pub put-requires-clause-fresh : goal.put-requires-clause-fresh
put-requires-clause-fresh c =
    let ls = layers_after c.args.lookup.now.1 c.args.rows.now.view.history in
    let words = row_at c.args.rows.now.view.rows c.args.row in
    subst (IsFresh ls c.row_of.new.out) (sym c.looked.ensures)
    (kept_fresh ls words c.args.former.now.crossing c.args.former.now.body c.args.walked.now c.args.again.now c.row_of.new.out c.requires.compared c.requires.same c.row_of.ensures.words)
