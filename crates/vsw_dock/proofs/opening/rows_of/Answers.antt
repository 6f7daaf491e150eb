use Rattle.std.proofs.Common.{◌≡◌, ◌++◌, ◌+◌, ◌-◌, suc, ap, sym, subst, ◌∙◌, arith}
use Rattle.vsw_live.specs.Ports.{items_of}
use Rattle.vsw_dock.proofs.Docked.{idle_later}
use Rattle.vsw_dock.proofs.Same.{later_is, row_made}
use Rattle.vsw_dock.specs.Opening.{AreIdle, later_passes, rows_from, rows_in}
use Rattle.vsw_dock.proofs.opening.rows_of.Goals as goal

pub loop-preserved : goal.loop-preserved
loop-preserved c =
    let before = items_of c.loop.left.items in
    let after = items_of c.row_of.new.left.items in
    let later : after ≡ later_passes before = later_is before after c.in_ok-row_of.ensures.later in
    let less : c.args.count - c.loop.counter ≡ suc (c.args.count - (c.loop.counter + 1)) = omega (arith, c.loop-test.true) in
    record {
      idle = subst AreIdle (sym later) (idle_later before c.loop.invariant.idle);
      rows = ap (λ rows. rows_in rows ++ rows_from (c.args.count - (c.loop.counter + 1)) after) c.in_ok-put.ensures.items
          ∙ (row_made c.loop.rows.items c.in_ok-row_of.field-0 (c.args.count - c.loop.counter) (c.args.count - (c.loop.counter + 1)) before after less c.in_ok-row_of.ensures.lanes later ∙ c.loop.invariant.rows);
    }
