use Rattle.vsw_core.proofs.Published.{crossed_owned, crossed_pass, crossed_rows, crossed_stands, crossed_wanting, crossed_writer}
use Rattle.vsw_port.specs.declared.event.Event.TheVariants as event
use Rattle.vsw_port.specs.Core.{entered}
use Rattle.vsw_core.proofs.crossing.cross.Goals as goal

pub enter-outcome-requires-clause-opening : goal.enter-outcome-requires-clause-opening
enter-outcome-requires-clause-opening c = c.requires.owned.opening c.args.lookup.now.1 c.requires.core.opens

pub returns-clause-owned : goal.returns-clause-owned
returns-clause-owned c =
    crossed_owned c.args.lookup.now.1 c.args.lookup.now.2 c.args.crossing.now (event.Crossing c.args.crossing.now c.enter-outcome.result.fate) (entered c.enter-outcome.result.entry (event.Crossing c.args.crossing.now c.enter-outcome.result.fate)) c.enter-outcome.new.ledger c.enter-outcome.new.permits
    c.args.rows.now c.enter-outcome.new.rows c.publish.new.rows c.args.pass.now c.enter-outcome.new.pass c.publish.result (record { steps = c.enter-outcome.ensures.steps; leaves = c.publish.ensures }) c.enter-outcome.ensures.owned

pub returns-clause-writer : goal.returns-clause-writer
returns-clause-writer c =
    crossed_writer c.args.lookup.now.1 c.args.lookup.now.2 c.args.crossing.now (event.Crossing c.args.crossing.now c.enter-outcome.result.fate) (entered c.enter-outcome.result.entry (event.Crossing c.args.crossing.now c.enter-outcome.result.fate))
    c.args.rows.now c.enter-outcome.new.rows c.publish.new.rows c.args.pass.now c.enter-outcome.new.pass c.publish.result (record { steps = c.enter-outcome.ensures.steps; leaves = c.publish.ensures })

pub returns-clause-pass : goal.returns-clause-pass
returns-clause-pass c =
    crossed_pass c.args.lookup.now.1 c.args.lookup.now.2 c.args.crossing.now (event.Crossing c.args.crossing.now c.enter-outcome.result.fate) (entered c.enter-outcome.result.entry (event.Crossing c.args.crossing.now c.enter-outcome.result.fate))
    c.args.rows.now c.enter-outcome.new.rows c.publish.new.rows c.args.pass.now c.enter-outcome.new.pass c.publish.result (record { steps = c.enter-outcome.ensures.steps; leaves = c.publish.ensures })

pub returns-clause-rows : goal.returns-clause-rows
returns-clause-rows c =
    crossed_rows c.args.lookup.now.1 c.args.lookup.now.2 c.args.crossing.now c.enter-outcome.result.fate (entered c.enter-outcome.result.entry (event.Crossing c.args.crossing.now c.enter-outcome.result.fate))
    c.args.rows.now c.enter-outcome.new.rows c.publish.new.rows c.args.pass.now c.enter-outcome.new.pass c.publish.result (record { steps = c.enter-outcome.ensures.steps; leaves = c.publish.ensures })

pub returns-clause-stands : goal.returns-clause-stands
returns-clause-stands c =
    crossed_stands c.args.lookup.now.1 c.args.lookup.now.2 c.args.crossing.now (event.Crossing c.args.crossing.now c.enter-outcome.result.fate) (entered c.enter-outcome.result.entry (event.Crossing c.args.crossing.now c.enter-outcome.result.fate))
    c.args.rows.now c.enter-outcome.new.rows c.publish.new.rows c.args.pass.now c.enter-outcome.new.pass c.publish.result (record { steps = c.enter-outcome.ensures.steps; leaves = c.publish.ensures })

pub returns-clause-wanting : goal.returns-clause-wanting
returns-clause-wanting c =
    crossed_wanting c.args.lookup.now.1 c.args.lookup.now.2 c.args.crossing.now (event.Crossing c.args.crossing.now c.enter-outcome.result.fate) (entered c.enter-outcome.result.entry (event.Crossing c.args.crossing.now c.enter-outcome.result.fate))
    c.args.rows.now c.enter-outcome.new.rows c.publish.new.rows c.args.pass.now c.enter-outcome.new.pass c.publish.result (record { steps = c.enter-outcome.ensures.steps; leaves = c.publish.ensures })
