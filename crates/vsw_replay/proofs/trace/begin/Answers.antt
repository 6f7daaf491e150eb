use Rattle.std.proofs.Common.{arith}
use Rattle.vsw_replay.proofs.Beginning.{first_filled, first_unfilled}
use Rattle.vsw_replay.proofs.Filling.{near_filled, cut_as}
use Rattle.vsw_replay.proofs.trace.begin.Goals as goal

pub put_head-requires : goal.put_head-requires
put_head-requires g c =
    let next = c.next_cut-next.result in
    record { near = near_filled c.args.schedule.now (g.H.Host.outside c.args.host.now) (g.H.Host.outside c.fill.new.host) c.args.run.now c.args.run.now.reading 0 next next c.in-Ok.stop c.fill.new.reading (omega arith) (omega arith) c.next_cut-next.ensures.next c.requires.near c.in-Ok.ensures.fills }

pub returns-in-Ok-clause-goes : goal.returns-in-Ok-clause-goes
returns-in-Ok-clause-goes g c = λ s start name switch e o.
    let next = c.next_cut-next.result in
    c.put_head.ensures.goes s start name switch (first_filled s start (g.H.Host.outside c.args.host.now) (g.H.Host.outside c.fill.new.host) name c.args.run.now switch next next c.in-Ok.stop c.fill.new.reading (cut_as s.commands c.args.schedule.now 0 next e c.next_cut-next.ensures.next) c.fill.ensures.outputs c.in-Ok.ensures.fills o)

pub returns-in-Err-clause-goes : goal.returns-in-Err-clause-goes
returns-in-Err-clause-goes g c = λ s start name switch e o. first_unfilled s start (g.H.Host.outside c.args.host.now) (g.H.Host.outside c.fill.new.host) name c.args.run.now switch c.next_cut-next.result _ c.fill.new.reading c.fill.ensures.outputs c.in-Err.ensures.fills o
