use Rattle.std.proofs.Common.{ap, subst}
use Rattle.vsw_core.proofs.Around.{shakes_around, walked_still}
use Rattle.vsw_core.proofs.Entered.{Settled, few_entries, settled_shakes, settled_spares, steps}
use Rattle.vsw_port.specs.Ledger.{layers_in}
use Rattle.vsw_core.proofs.Permits.{has_permit, owned_grown}
use Rattle.vsw_port.specs.declared.event.Event.{Event}
use Rattle.vsw_port.specs.declared.event.Event.TheVariants as event
use Rattle.vsw_port.specs.Calls.{Carried}
use Rattle.vsw_port.specs.Next.{IsDone}
use Rattle.vsw_port.specs.Core.{entered}
use Rattle.vsw_flows.specs.Flows.{Writing}
use Rattle.vsw_core.proofs.crossing.enter.Goals as goal

pub settle-outcome-requires-clause-room : goal.settle-outcome-requires-clause-room
settle-outcome-requires-clause-room c = (has_permit c.args.ledger.now c.args.rows.now c.args.permits.now c.args.pass.now.view.number c.args.pass.now.view.permits c.requires.owned c.meet.ensures.held c.requires.permit).1

pub follow-requires-clause-spares : goal.follow-requires-clause-spares
follow-requires-clause-spares c =
    settled_spares c.args.lookup.now.1 c.args.crossing.now c.settle-outcome.result.fate c.args.ledger.now c.args.rows.now c.meet.new.self c.shake_behind.new.rows c.args.pass.now
    (record {
      opening = c.requires.opening;
      journal = c.requires.owned.journal;
      opens = c.requires.core.opens;
      meets = c.meet.ensures.writer;
      shakes = shakes_around c.args.ledger.now (layers_in c.settle-outcome.new.self) c.args.crossing.now c.args.walked.now c.args.scratch.now c.settle-outcome.result c.meet.new.self c.shake_before.new.rows c.shake_behind.new.rows
          c.requires.walk c.settle-outcome.ensures.exact c.settle-outcome.ensures.memory c.shake_before.ensures.moves c.shake_before.ensures.none c.shake_behind.ensures.falls c.shake_behind.ensures.moves c.shake_behind.ensures.none;
    })

pub spend-requires : goal.spend-requires
spend-requires c = record { one = (has_permit c.args.ledger.now c.args.rows.now c.args.permits.now c.args.pass.now.view.number c.args.pass.now.view.permits c.requires.owned c.meet.ensures.held c.requires.permit).0 }

pub returns-clause-done : goal.returns-clause-done
returns-clause-done c p bytes =
    subst (λ o. IsDone o c.args.rows.now.view.history (Carried c.args.crossing.now p c.settle-outcome.result.fate bytes) c.settle-outcome.result.entry) c.requires.opening
    (subst (λ h. IsDone c.args.ledger.now.opening h (Carried c.args.crossing.now p c.settle-outcome.result.fate bytes) c.settle-outcome.result.entry) c.requires.owned.journal (c.settle-outcome.ensures.done p bytes))

pub returns-clause-steps : goal.returns-clause-steps
returns-clause-steps c =
    let t : Settled c.args.lookup.now.1 c.args.crossing.now c.args.ledger.now c.args.rows.now c.meet.new.self c.shake_behind.new.rows c.args.pass.now =
    record {
      opening = c.requires.opening;
      journal = c.requires.owned.journal;
      opens = c.requires.core.opens;
      meets = c.meet.ensures.writer;
      shakes = shakes_around c.args.ledger.now (layers_in c.settle-outcome.new.self) c.args.crossing.now c.args.walked.now c.args.scratch.now c.settle-outcome.result c.meet.new.self c.shake_before.new.rows c.shake_behind.new.rows
          c.requires.walk c.settle-outcome.ensures.exact c.settle-outcome.ensures.memory c.shake_before.ensures.moves c.shake_before.ensures.none c.shake_behind.ensures.falls c.shake_behind.ensures.moves c.shake_behind.ensures.none;
    }
    in
    steps c.args.lookup.now.1 c.args.crossing.now c.settle-outcome.result.fate c.settle-outcome.result.entry c.args.rows.now c.meet.new.self c.shake_behind.new.rows c.follow.new.rows c.args.pass.now c.meet.new.pass c.follow.new.pass
    (record {
      meets = c.meet.ensures.writer;
      pass = c.meet.ensures.pass;
      shakes = settled_shakes c.args.lookup.now.1 c.args.crossing.now c.args.ledger.now c.args.rows.now c.meet.new.self c.shake_behind.new.rows c.args.pass.now t;
      writer = c.follow.ensures.writer;
      passes = c.follow.ensures.pass;
      seen = c.meet.ensures.seen;
    })

pub returns-clause-owned : goal.returns-clause-owned
returns-clause-owned c =
    let e : Event = event.Crossing c.args.crossing.now c.settle-outcome.result.fate in
    owned_grown c.args.ledger.now c.settle-outcome.new.self c.args.rows.now c.follow.new.rows c.args.pass.now c.args.permits.now c.spend.new.permits (entered c.settle-outcome.result.entry e) c.requires.owned c.meet.ensures.held (returns-clause-steps c).writer
    c.settle-outcome.ensures.opening c.settle-outcome.ensures.journal c.settle-outcome.ensures.room (few_entries c.settle-outcome.result.entry e c.args.pass.now.view.permits c.requires.permit) (c.spend.ensures.spent e)

pub returns-clause-walk : goal.returns-clause-walk
returns-clause-walk c none =
    walked_still c.args.lookup.now.1 c.args.ledger.now c.args.crossing.now c.args.walked.now c.args.scratch.now c.settle-outcome.result.entry (event.Crossing c.args.crossing.now c.settle-outcome.result.fate) c.args.rows.now c.follow.new.rows
    c.requires.opening c.requires.owned.journal c.requires.walk (ap (λ (u : Writing). u.view.history) (returns-clause-steps c).writer) none
