use Rattle.vsw_harbour.specs.HarbourOpening.{rows_in}
use Rattle.vsw_crew.proofs.Asking.{none_asked}
use Rattle.vsw_crew.proofs.before.meet_and_ask.Goals as goal

pub returns-then-is_empty : goal.returns-then-is_empty
returns-then-is_empty g c = record { asked = none_asked c.args.harbour.now c.args.schedule.now c.args.first c.places.result.now c.is_empty.result (rows_in c.args.rows.now) c.is_empty.ensures c.if-is_empty.true c.places.ensures }
