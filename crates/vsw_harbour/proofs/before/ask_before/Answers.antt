use Rattle.vsw_dock.specs.Opening.{rows_in}
use Rattle.vsw_harbour.proofs.Turning.{round_turned}
use Rattle.vsw_harbour.proofs.before.ask_before.Goals as goal

pub returns-clause-turned : goal.returns-clause-turned
returns-clause-turned g c = round_turned c.args.harbour.now c.args.schedule.now c.args.first c.places.result.now (rows_in c.args.rows.now) (rows_in c.ask_each.new.rows) c.places.ensures c.in_ok-ask_each.ensures.turned
