use Rattle.vsw_answer.specs.Transit.{bytes_in}
use Rattle.vsw_frame.specs.Frame.{parts}
use Rattle.vsw_port.specs.Calls.{Carried}
use Rattle.vsw_switch.specs.Stay.{standing}
use Rattle.vsw_switch.proofs.Places.{makes_ok, set_same}
use Rattle.vsw_switch.proofs.arrival.carry_at.Goals as goal

pub returns-clause-makes : goal.returns-clause-makes
returns-clause-makes g c =
    let p = parts c.args.frame.now in
    let o = c.carry.new.outcome in
    makes_ok c.args.ports.now.items c.args.place.port c.index_mut-port.result.now c.carry.new.self (λ count. record { deed = Carried c.bring.new.self.crossing p o.fate (bytes_in o.own p o.fate c.carry.new.room); entry = o.entry; count = count }) c.carry.result c.requires.within c.index_mut-port.ensures.value c.carry.ensures.makes

pub returns-clause-stays : goal.returns-clause-stays
returns-clause-stays g c = set_same standing c.args.ports.now.items c.args.place.port c.index_mut-port.result.now c.carry.new.self c.index_mut-port.ensures.value c.carry.ensures.stays
