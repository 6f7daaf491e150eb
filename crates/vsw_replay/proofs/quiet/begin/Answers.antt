use Rattle.std.proofs.Common.{arith, sym}
use Rattle.vsw_replay.proofs.Beginning.{first_filled, first_unfilled, head_none}
use Rattle.vsw_replay.proofs.Filling.{near_filled, cut_as, reading_on}
use Rattle.vsw_replay.proofs.Unput.{first_begun, unheaded_leaves}
use Rattle.vsw_replay.specs.Private.Exporting.{unput}
use Rattle.vsw_replay.specs.declared.trace.Stretch.{Stretch}
use Rattle.vsw_replay.proofs.quiet.begin.Goals as goal

pub returns-in-None-clause-near : goal.returns-in-None-clause-near
returns-in-None-clause-near g c =
    let next = c.next_cut-next.result in
    near_filled c.args.schedule.now (g.H.Host.outside c.args.host.now) (g.H.Host.outside c.fill.new.host) c.args.run.now c.args.run.now.reading 0 next next c.in-Ok.stop c.fill.new.reading (omega arith) (omega arith) c.next_cut-next.ensures.next c.requires.near c.in-Ok.ensures.fills

pub returns-in-None-clause-goes : goal.returns-in-None-clause-goes
returns-in-None-clause-goes g c = λ s start name switch e o.
    let next = c.next_cut-next.result in
    let now = g.H.Host.outside c.fill.new.host in
    let run = reading_on c.args.run.now c.fill.new.reading in
    let t : Stretch = record { first = 0; next = next; stop = c.in-Ok.stop } in
    first_begun s start now name run switch t (sym c.in-None.ensures) (first_filled s (unput start) (g.H.Host.outside c.args.host.now) now name c.args.run.now switch next next c.in-Ok.stop c.fill.new.reading (cut_as s.commands c.args.schedule.now 0 next e c.next_cut-next.ensures.next) c.fill.ensures.outputs c.in-Ok.ensures.fills o)

pub returns-in-Some-clause-goes : goal.returns-in-Some-clause-goes
returns-in-Some-clause-goes g c = λ s start name switch e o.
    let next = c.next_cut-next.result in
    let now = g.H.Host.outside c.fill.new.host in
    let run = reading_on c.args.run.now c.fill.new.reading in
    let t : Stretch = record { first = 0; next = next; stop = c.in-Ok.stop } in
    let first = first_filled s (unput start) (g.H.Host.outside c.args.host.now) now name c.args.run.now switch next next c.in-Ok.stop c.fill.new.reading (cut_as s.commands c.args.schedule.now 0 next e c.next_cut-next.ensures.next) c.fill.ensures.outputs c.in-Ok.ensures.fills o in
    unheaded_leaves s start now name switch c.in-Ok.stop c.fill.new.reading.seen c.in-Some.end (sym c.in-Some.ensures) (head_none s (unput start) now name run switch t t.next c.in-Some.end (sym c.in-Some.ensures) first)

pub returns-in-Err-clause-goes : goal.returns-in-Err-clause-goes
returns-in-Err-clause-goes g c = λ s start name switch e o. first_unfilled s (unput start) (g.H.Host.outside c.args.host.now) (g.H.Host.outside c.fill.new.host) name c.args.run.now switch c.next_cut-next.result _ c.fill.new.reading c.fill.ensures.outputs c.in-Err.ensures.fills o
