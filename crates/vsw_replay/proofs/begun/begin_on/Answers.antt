use Rattle.std.proofs.Common.{Ok, Err}
use Rattle.vsw_replay.proofs.Filling.{next_few, next_unfilled, on_unread}
use Rattle.vsw_replay.proofs.Parts.{between_begun, near_begun}
use Rattle.vsw_reading.proofs.Open.{cleared, open_cleared, open_with, fills_with}
use Rattle.vsw_replay.proofs.begun.begin_on.Goals as goal

pub fill-requires-clause-near : goal.fill-requires-clause-near
fill-requires-clause-near g c = open_with (g.H.Host.outside c.args.host.now) c.args.run.now.reading c.clear.new.self c.clear.ensures c.requires.near

pub returns-in-Ok-clause-goes : goal.returns-in-Ok-clause-goes
returns-in-Ok-clause-goes g c = λ s start name switch e b.
    let old = g.H.Host.outside c.args.host.now in
    let now = g.H.Host.outside c.fill.new.host in
    let run = c.args.run.now in
    between_begun s start old now name run switch c.args.schedule.now c.args.first c.next_cut-next.result c.in-Ok.stop c.fill.new.reading e c.fill.ensures.outputs c.requires.few c.next_cut-next.ensures.next (fills_with old now run.reading c.fill.new.reading c.clear.new.self 1 (Ok c.in-Ok.stop) c.clear.ensures c.in-Ok.ensures.fills) b

pub returns-in-Ok-clause-near : goal.returns-in-Ok-clause-near
returns-in-Ok-clause-near g c =
    let old = g.H.Host.outside c.args.host.now in
    let now = g.H.Host.outside c.fill.new.host in
    let run = c.args.run.now in
    let next = c.next_cut-next.result in
    near_begun old now run c.args.first next c.in-Ok.stop (cleared run.reading) c.fill.new.reading c.next_cut-next.ensures.next.above (next_few c.args.schedule.now c.args.first next c.requires.few c.next_cut-next.ensures.next) (fills_with old now run.reading c.fill.new.reading c.clear.new.self 1 (Ok c.in-Ok.stop) c.clear.ensures c.in-Ok.ensures.fills) (open_cleared old run.reading c.requires.near)

pub returns-in-Err-clause-goes : goal.returns-in-Err-clause-goes
returns-in-Err-clause-goes g c = λ s start name switch e b.
    let old = g.H.Host.outside c.args.host.now in
    let now = g.H.Host.outside c.fill.new.host in
    let run = c.args.run.now in
    let fills = fills_with old now run.reading c.fill.new.reading c.clear.new.self 1 (Err _) c.clear.ensures c.in-Err.ensures.fills in
    next_unfilled s start old now name run (record { reading = c.fill.new.reading; text = run.text; short = run.short }) switch c.args.first c.fill.ensures.outputs (λ bytes given read some count. on_unread start old now name run.reading given bytes 1 _ c.fill.new.reading fills some read) b
