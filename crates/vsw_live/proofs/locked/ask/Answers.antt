use Rattle.std.proofs.Common.{◌≡◌, ap, sym, subst, not}
use Rattle.vsw_port.specs.declared.event.Event.TheVariants as event
use Rattle.vsw_port.specs.Calls.{Asked}
use Rattle.vsw_live.specs.Calls.{Crosses, asked}
use Rattle.vsw_live.proofs.Ends.{crosses_met}
use Rattle.vsw_policy.specs.Obey.{is_memory}
use Rattle.vsw_policy.specs.Refusals.{reply_of}
use Rattle.vsw_flows.specs.Flows.{Writing}
use Rattle.vsw_rows.specs.GoodRows.{opening_of}
use Rattle.vsw_live.proofs.locked.ask.Goals as goal

pub returns-clause-crosses : goal.returns-clause-crosses
returns-clause-crosses c = λ l number controller command.
    let o = opening_of c.args.lookup.now.1 in
    let r = c.command-answer.result in
    let named : event.Command l.controller l.number l.command (reply_of r) ≡ event.Command c.args.controller c.args.line c.args.command.now (reply_of r) = λ i. event.Command (controller i) (number i) (command i) (reply_of r) in
    subst (λ t. Crosses o c.args.pass.now c.command-answer.new.pass (asked l t)) (sym c.told.ensures)
    (crosses_met o c.args.core.now.writer.view.history c.count-count.new.core.writer.view.history c.command-answer.new.self.writer.view.history c.args.pass.now c.count-count.new.pass c.command-answer.new.pass (Asked l (reply_of r))
    (event.Command c.args.controller c.args.line c.args.command.now (reply_of r)) (not (is_memory r)) c.count-count.result c.requires.right c.count-count.ensures.seen c.count-count.ensures.count c.count-count.ensures.history c.count-count.ensures.met
    named (c.command-answer.ensures.done l number controller command) c.requires.permit (ap (λ (w : Writing). w.view.history) c.command-answer.ensures.writer) c.command-answer.ensures.pass tt)
