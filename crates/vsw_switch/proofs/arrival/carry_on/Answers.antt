use Rattle.std.proofs.Common.{◌≡◌, ◌∙◌, ◌%◌, ap, arith}
use Rattle.vsw_answer.specs.Transit.{bytes_in}
use Rattle.vsw_base.specs.declared.flow.Crossing.{Crossing}
use Rattle.vsw_frame.specs.Frame.{parts}
use Rattle.vsw_header.specs.FlowSum.{flow_sum_of}
use Rattle.vsw_promise.specs.Jobs.{crossing_by, worker_of}
use Rattle.vsw_switch.proofs.Carrying.{callers_known, callers_stay, carried_off, carried_ok, empty_is}
use Rattle.vsw_switch.proofs.arrival.carry_on.Goals as goal

pub returns-then-is_empty-clause-hands : goal.returns-then-is_empty-clause-hands
returns-then-is_empty-clause-hands g c =
    let o = c.carry_at.new.rooms.outcome in
    let p = parts c.args.frame.now in
    let who : c.worker_for-caller.result ≡ worker_of c.args.workers p = c.worker_for-caller.ensures.value ∙ ap (λ s. flow_sum_of s % c.args.workers) c.stack.ensures in
    carried_off c.args.locals.now (worker_of c.args.workers p) c.args.packet c.args.moment c.args.place p c.carry_at.new.rooms.crossing o.fate (bytes_in o.own p o.fate c.carry_at.new.rooms.room) o.entry c.args.ports.now.items c.carry_at.new.ports.items
    (empty_is c.args.locals.now c.is_empty.result c.is_empty.ensures c.if-is_empty.true) (c.carry_at.ensures.crossing ∙ ap (λ k. crossing_by k c.args.packet c.args.place c.args.moment p) who) c.in_ok-carry_at.ensures.makes

pub hand-requires-clause-callers : goal.hand-requires-clause-callers
hand-requires-clause-callers g c =
    callers_stay c.carry_at.new.rooms.crossing.caller c.args.ports.now.items c.carry_at.new.ports.items c.carry_at.ensures.stays
    (callers_known c.carry_at.new.rooms.crossing.caller c.args.workers c.args.ports.now.items (omega (arith, ap (λ (x : Crossing). x.caller) c.carry_at.ensures.crossing, c.worker_for-caller.ensures.below)) c.requires.callers)

pub returns-clause-hands : goal.returns-clause-hands
returns-clause-hands g c =
    let o = c.carry_at.new.rooms.outcome in
    let p = parts c.args.frame.now in
    let who : c.worker_for-caller.result ≡ worker_of c.args.workers p = c.worker_for-caller.ensures.value ∙ ap (λ s. flow_sum_of s % c.args.workers) c.stack.ensures in
    carried_ok c.args.locals.now (worker_of c.args.workers p) c.args.packet c.args.moment c.args.place p c.carry_at.new.rooms.crossing o.fate (bytes_in o.own p o.fate c.carry_at.new.rooms.room) o.entry c.args.ports.now.items c.carry_at.new.ports.items c.hand.new.ports.items c.hand.result
    (c.carry_at.ensures.crossing ∙ ap (λ k. crossing_by k c.args.packet c.args.place c.args.moment p) who) c.in_ok-carry_at.ensures.makes c.hand.ensures.does
