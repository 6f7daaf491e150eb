use Rattle.std.proofs.Common.{[], ap, sym, refl, subst}
use Rattle.vsw_port.specs.declared.event.Event.TheVariants as event
use Rattle.vsw_port.specs.Calls.{Carried}
use Rattle.vsw_port.specs.History.{replay}
use Rattle.vsw_base.specs.Frame.{Parts}
use Rattle.vsw_base.specs.declared.packet.Control.TheVariants as control
use Rattle.vsw_live.specs.Private.Locked.{IsFateAt}
use Rattle.vsw_live.proofs.Ends.{crosses_met, met_front}
use Rattle.vsw_live.proofs.Under.{fate_is}
use Rattle.vsw_port.specs.Core.{entered}
use Rattle.vsw_flows.specs.Flows.{Writing}
use Rattle.vsw_rows.specs.GoodRows.{opening_of}
use Rattle.vsw_live.proofs.locked.cross.Goals as goal

pub returns-clause-crosses : goal.returns-clause-crosses
returns-clause-crosses c = λ parts bytes shows.
    let o = opening_of c.args.lookup.now.1 in
    let r = c.slow-outcome.result in
    crosses_met o c.args.core.now.writer.view.history c.count-count.new.core.writer.view.history c.slow-outcome.new.self.writer.view.history c.args.pass.now c.count-count.new.pass c.slow-outcome.new.pass (Carried c.args.crossing.now parts r.fate bytes)
    (event.Crossing c.args.crossing.now r.fate) r.entry c.count-count.result c.requires.right c.count-count.ensures.seen c.count-count.ensures.count c.count-count.ensures.history c.count-count.ensures.met
    refl (c.slow-outcome.ensures.done parts bytes) c.requires.permit (ap (λ (w : Writing). w.view.history) c.slow-outcome.ensures.writer) c.slow-outcome.ensures.pass shows

pub returns-clause-fate : goal.returns-clause-fate
returns-clause-fate c =
    let o = opening_of c.args.lookup.now.1 in
    let r = c.slow-outcome.result in
    let h = c.args.core.now.writer.view.history in
    let none : Parts = record { stack = []; control = control.None; levels = []; payload = [] } in
    let front = met_front h c.count-count.new.core.writer.view.history c.slow-outcome.new.self.writer.view.history (entered r.entry (event.Crossing c.args.crossing.now r.fate)) c.count-count.new.pass c.slow-outcome.new.pass c.count-count.result c.count-count.ensures.count c.count-count.ensures.history
    (ap (λ (w : Writing). w.view.history) c.slow-outcome.ensures.writer) c.slow-outcome.ensures.pass in
    let at = fate_is o c.count-count.new.core.writer.view.history c.args.crossing.now none r.fate [] r.entry (c.slow-outcome.ensures.done none []) in
    subst (λ f. IsFateAt (replay o f) c.args.crossing.now r.fate) (sym front) (subst (λ f. IsFateAt (replay o f) c.args.crossing.now r.fate) c.count-count.ensures.history at)
