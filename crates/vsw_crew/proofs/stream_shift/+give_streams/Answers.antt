use Rattle.vsw_crew.proofs.Outgoing.{none_given}
use Rattle.vsw_crew.proofs.stream_shift.+give_streams.Goals as goal

pub returns-in_default-clause-given : goal.returns-in_default-clause-given
returns-in_default-clause-given g t c = none_given c.args.number c.args.most c.args.harbour.now.docks c.args.rows.now c.args.drains.now c.args.pool.now c.in_default.ensures.cases
