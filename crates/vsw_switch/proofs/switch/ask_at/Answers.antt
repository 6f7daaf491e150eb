use Rattle.vsw_port.specs.Calls.{Ask}
use Rattle.vsw_switch.specs.Stay.{standing}
use Rattle.vsw_switch.proofs.Places.{does_ok, set_same}
use Rattle.vsw_switch.proofs.switch.ask_at.Goals as goal

pub returns-clause-does : goal.returns-clause-does
returns-clause-does c = does_ok c.args.ports.now.items c.args.place c.index_mut-port.result.now c.ask.new.self (Ask c.args.line.now) c.ask.result c.requires.within c.index_mut-port.ensures.value c.ask.ensures.does

pub returns-clause-stays : goal.returns-clause-stays
returns-clause-stays c = set_same standing c.args.ports.now.items c.args.place c.index_mut-port.result.now c.ask.new.self c.index_mut-port.ensures.value c.ask.ensures.stays
