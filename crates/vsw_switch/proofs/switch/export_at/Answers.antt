use Rattle.vsw_switch.proofs.Given.{gives_ok}
use Rattle.vsw_switch.proofs.Places.{set_here}
use Rattle.vsw_switch.proofs.switch.export_at.Goals as goal

pub returns-clause-same : goal.returns-clause-same
returns-clause-same c = set_here c.args.ports.now.items c.args.place c.index_mut-port.result.now c.export.new.self c.index_mut-port.ensures.value c.export.ensures.same

pub returns-clause-gives : goal.returns-clause-gives
returns-clause-gives c = gives_ok c.args.ports.now.items c.args.place c.index_mut-port.result.now c.export.result c.requires.within c.index_mut-port.ensures.value c.export.ensures.gives
