use Rattle.std.proofs.Common.{◌∙◌, arith}
use Rattle.vsw_crew.proofs.GoneAtPort.{room_none, room_same}
use Rattle.vsw_crew.proofs.port.room_of.Goals as goal

pub returns-then-number-team-clause-none : goal.returns-then-number-team-clause-none
returns-then-number-team-clause-none c = room_none c.args.team.now c.args.number c.replace.result _ c.requires.quiet (omega (arith, c.if-number-team.true)) c.replace.ensures.value

pub returns-then-number-team-clause-team : goal.returns-then-number-team-clause-team
returns-then-number-team-clause-team c = room_same c.args.team.now c.args.number c.replace.new.dest c.requires.quiet (c.replace.ensures.after ∙ c.new.ensures)
