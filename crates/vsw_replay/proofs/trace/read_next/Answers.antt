use Rattle.vsw_replay.proofs.Filling.{next_filled, next_unfilled}
use Rattle.vsw_reading.proofs.Open.{open_cleared}
use Rattle.vsw_replay.proofs.trace.read_next.Goals as goal

pub read_on-requires-clause-near : goal.read_on-requires-clause-near
read_on-requires-clause-near g c = open_cleared (g.H.Host.outside c.args.host.now) c.args.run.now.reading c.requires.near

pub returns-in-Ok-clause-goes : goal.returns-in-Ok-clause-goes
returns-in-Ok-clause-goes g c = λ s start name switch e b.
    let old = g.H.Host.outside c.args.host.now in
    let now = g.H.Host.outside c.read_on.new.host in
    next_filled s start old now name c.args.run.now c.read_on.new.run switch c.args.schedule.now c.args.first c.in-Ok.next e c.read_on.ensures.outputs c.in-Ok.ensures.first c.read_on.ensures.short (λ bytes given read some count. c.in-Ok.ensures.reads start name bytes given read some count) b

pub returns-in-Err-clause-goes : goal.returns-in-Err-clause-goes
returns-in-Err-clause-goes g c = λ s start name switch e b.
    let old = g.H.Host.outside c.args.host.now in
    let now = g.H.Host.outside c.read_on.new.host in
    next_unfilled s start old now name c.args.run.now c.read_on.new.run switch c.args.first c.read_on.ensures.outputs (λ bytes given read some count. c.in-Err.ensures.reads start name bytes given read some count) b
