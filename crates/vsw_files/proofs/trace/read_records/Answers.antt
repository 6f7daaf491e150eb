use Rattle.vsw_files.proofs.Wholes.{nothing_held, open_filled, unfilled}
use Rattle.vsw_files.proofs.trace.read_records.Goals as goal

pub look_past-requires : goal.look_past-requires
look_past-requires g c = record { near = open_filled (g.H.Host.outside c.args.host.now) (g.H.Host.outside c.fill.new.host) c.args.reading.now c.fill.new.reading c.in-Ok.stop c.requires.near c.in-Ok.ensures.fills }

pub returns-in-Ok-clause-ends : goal.returns-in-Ok-clause-ends
returns-in-Ok-clause-ends g c = λ start name read. c.look_past.ensures.ends start name (c.in-Ok.ensures.fills start name _ (nothing_held start (g.H.Host.outside c.args.host.now) name c.args.reading.now c.requires.empty read))

pub returns-in-Ok-clause-later : goal.returns-in-Ok-clause-later
returns-in-Ok-clause-later g c = λ start name read. c.look_past.ensures.later start name (c.in-Ok.ensures.fills start name _ (nothing_held start (g.H.Host.outside c.args.host.now) name c.args.reading.now c.requires.empty read))

pub returns-in-Err-clause-ends : goal.returns-in-Err-clause-ends
returns-in-Err-clause-ends g c = λ start name read. unfilled start (g.H.Host.outside c.fill.new.host) name c.fill.new.reading _ (c.in-Err.ensures.fills start name _ (nothing_held start (g.H.Host.outside c.args.host.now) name c.args.reading.now c.requires.empty read))

pub returns-in-Err-clause-later : goal.returns-in-Err-clause-later
returns-in-Err-clause-later g c = λ start name read. (c.in-Err.ensures.fills start name _ (nothing_held start (g.H.Host.outside c.args.host.now) name c.args.reading.now c.requires.empty read)).reading.later
