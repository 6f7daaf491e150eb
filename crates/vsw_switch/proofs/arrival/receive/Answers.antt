use Rattle.vsw_answer.specs.Transit.{bytes_in}
use Rattle.vsw_frame.specs.Frame.{parts}
use Rattle.vsw_promise.specs.Jobs.{handed_on}
use Rattle.vsw_report.specs.declared.told.What.TheVariants as what
use Rattle.vsw_switch.proofs.Carrying.{received_one}
use Rattle.vsw_switch.proofs.arrival.receive.Goals as goal

pub returns-in_ok-carry_at-in-Some-clause-does : goal.returns-in_ok-carry_at-in-Some-clause-does
returns-in_ok-carry_at-in-Some-clause-does g c =
    let first = c.args.first.now in
    let o = c.carry_at.new.rooms.outcome in
    let p = parts c.in-Some.frame in
    received_one first.caller first.packet first.moment (record { port = c.in-Some.port; parts = p }) (handed_on c.args.locals.now (record { port = c.args.from; dir = first.id.dir }) (what.Fate c.args.fate c.args.bytes.now)) c.carry_at.new.rooms.crossing
    o.fate (bytes_in o.own p o.fate c.carry_at.new.rooms.room) o.entry c.args.ports.now.items c.carry_at.new.ports.items c.in-Some.ensures.value c.carry_at.ensures.crossing c.in_ok-carry_at-in-Some.ensures.makes
