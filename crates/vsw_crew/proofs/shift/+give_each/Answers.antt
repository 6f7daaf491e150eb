use Rattle.std.specs.Arc.{arc_value}
use Rattle.vsw_crew.proofs.Giving.{none_given}
use Rattle.vsw_crew.proofs.shift.+give_each.Goals as goal

pub returns-in_default-clause-given : goal.returns-in_default-clause-given
returns-in_default-clause-given g t c = none_given c.args.number c.args.first c.args.harbour.now.docks (arc_value c.args.packets.now) c.args.rows.now c.args.picks.now c.args.pool.now c.in_default.ensures.cases
