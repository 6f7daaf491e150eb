use Rattle.vsw_replay.proofs.Owing.{read_ahead, unread_ahead}
use Rattle.vsw_replay.proofs.ahead.read_meanwhile.Goals as goal

pub returns-in-Ok-read_on-clause-ahead : goal.returns-in-Ok-read_on-clause-ahead
returns-in-Ok-read_on-clause-ahead g c = λ s start name packets switch e some o.
    let mid = g.H.Host.outside c.settle.new.host in
    read_ahead s start mid (g.H.Host.outside c.read_on.new.host) name c.settle.new.run c.read_on.new.run switch c.args.schedule.now packets c.args.stretch c.in-Ok-read_on.next e c.requires.full some c.read_on.ensures.outputs c.in-Ok-read_on.ensures.first c.read_on.ensures.short
    (λ bytes given read many count. c.in-Ok-read_on.ensures.reads start name bytes given read many count) (c.in-Ok.ensures.settles s start name packets switch c.args.stretch o)

pub returns-in-Err-read_on-clause-ahead : goal.returns-in-Err-read_on-clause-ahead
returns-in-Err-read_on-clause-ahead g c = λ s start name packets switch e some o.
    let mid = g.H.Host.outside c.settle.new.host in
    unread_ahead s start mid (g.H.Host.outside c.read_on.new.host) name c.settle.new.run c.read_on.new.run switch packets c.args.stretch c.requires.full c.read_on.ensures.outputs
    (λ bytes given read many count. c.in-Err-read_on.ensures.reads start name bytes given read many count) (c.in-Ok.ensures.settles s start name packets switch c.args.stretch o)

pub returns-in-Err-clause-ahead : goal.returns-in-Err-clause-ahead
returns-in-Err-clause-ahead g c = λ s start name packets switch e some o. c.in-Err.ensures.settles s start name packets switch c.args.stretch o
