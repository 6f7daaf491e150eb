use Rattle.std.proofs.Common.{sym, subst}
use Rattle.vsw_live.specs.Calls.{Crosses, TellsWhy, call_of}
use Rattle.vsw_live.proofs.Fasts.{cause_of, look_first}
use Rattle.vsw_rows.specs.GoodRows.{opening_of}
use Rattle.vsw_live.proofs.live.LivePort.forward.Goals as goal

pub returns-in-Slow-clause-crosses : goal.returns-in-Slow-clause-crosses
returns-in-Slow-clause-crosses g c =
    subst (λ u. Crosses (opening_of c.args.self.now.looking.1) c.args.pass.now c.slow.new.pass (call_of u c.slow.result c.slow.new.room)) c.in-Slow.ensures.fast.1
    (look_first (opening_of c.args.self.now.looking.1) c.args.pass.now c.fast.new.pass c.slow.new.pass (call_of c.in-Slow.ticket.unit c.slow.result c.slow.new.room) c.in-Slow.ensures.fast.0 c.slow.ensures.crosses)

pub returns-in-Slow-clause-why : goal.returns-in-Slow-clause-why
returns-in-Slow-clause-why g c =
    subst (TellsWhy c.args.self.now.looking c.args.unit.now.crossing c.args.pass.now.view c.slow.new.pass.view c.slow.result) (sym c.slow.ensures.why)
    (cause_of c.args.self.now.looking c.args.unit.now.crossing c.args.pass.now c.fast.new.pass c.slow.new.pass c.in-Slow.ticket.why c.in-Slow.ensures.fast.0.reads.1 c.slow.ensures.crosses.seen c.in-Slow.ensures.fast.2 c.slow.ensures.look)
