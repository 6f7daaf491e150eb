use Rattle.std.proofs.Common.{arith}
use Rattle.vsw_replay.proofs.Beginning.{first_filled, first_unfilled}
use Rattle.vsw_replay.proofs.Filling.{cut_as, next_few, reading_on}
use Rattle.vsw_replay.proofs.Parts.{near_begun, same_near}
use Rattle.vsw_replay.proofs.begun.begin_first.Goals as goal

pub put_head-requires : goal.put_head-requires
put_head-requires g c =
    let next = c.next_cut-next.result in
    let near = near_begun (g.H.Host.outside c.args.host.now) (g.H.Host.outside c.fill.new.host) c.args.run.now 0 next c.in-Ok.stop c.args.run.now.reading c.fill.new.reading c.next_cut-next.ensures.next.above (next_few c.args.schedule.now 0 next (omega arith) c.next_cut-next.ensures.next) c.in-Ok.ensures.fills c.requires.near in
    record { near = near.near }

pub returns-in-Ok-clause-goes : goal.returns-in-Ok-clause-goes
returns-in-Ok-clause-goes g c = λ s start name switch e o.
    let next = c.next_cut-next.result in
    c.put_head.ensures.begins s start name switch (first_filled s start (g.H.Host.outside c.args.host.now) (g.H.Host.outside c.fill.new.host) name c.args.run.now switch next 1 c.in-Ok.stop c.fill.new.reading (cut_as s.commands c.args.schedule.now 0 next e c.next_cut-next.ensures.next) c.fill.ensures.outputs c.in-Ok.ensures.fills o)

pub returns-in-Err-clause-goes : goal.returns-in-Err-clause-goes
returns-in-Err-clause-goes g c = λ s start name switch e o. first_unfilled s start (g.H.Host.outside c.args.host.now) (g.H.Host.outside c.fill.new.host) name c.args.run.now switch 1 _ c.fill.new.reading c.fill.ensures.outputs c.in-Err.ensures.fills o

pub returns-in-Ok-clause-near : goal.returns-in-Ok-clause-near
returns-in-Ok-clause-near g c =
    let next = c.next_cut-next.result in
    let old = g.H.Host.outside c.fill.new.host in
    let run = reading_on c.args.run.now c.fill.new.reading in
    let near = near_begun (g.H.Host.outside c.args.host.now) old c.args.run.now 0 next c.in-Ok.stop c.args.run.now.reading c.fill.new.reading c.next_cut-next.ensures.next.above (next_few c.args.schedule.now 0 next (omega arith) c.next_cut-next.ensures.next) c.in-Ok.ensures.fills c.requires.near in
    same_near old (g.H.Host.outside c.put_head.new.host) run (record { first = 0; next = next; stop = c.in-Ok.stop }) c.put_head.result near c.put_head.ensures.near c.put_head.ensures.same
