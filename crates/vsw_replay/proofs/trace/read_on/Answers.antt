use Rattle.std.proofs.Common.{◌≡◌, ◌+◌, ◌-◌, Ok, Err, arith}
use Rattle.vsw_replay.proofs.Filling.{on_read, on_unread, near_filled}
use Rattle.vsw_reading.proofs.Open.{cleared, open_with, fills_with}
use Rattle.vsw_replay.proofs.trace.read_on.Goals as goal

pub fill-requires-clause-near : goal.fill-requires-clause-near
fill-requires-clause-near g c = open_with (g.H.Host.outside c.args.host.now) (cleared c.args.run.now.reading) c.clear.new.self c.clear.ensures c.requires.near

pub returns-in-Ok-clause-reads : goal.returns-in-Ok-clause-reads
returns-in-Ok-clause-reads g c = λ start name bytes given read some count.
    let old = g.H.Host.outside c.args.host.now in
    let now = g.H.Host.outside c.fill.new.host in
    let run = c.args.run.now in
    let next = c.next_cut-next.result in
    let size : (next - c.args.first) + c.args.first ≡ next = omega (arith, c.next_cut-next.ensures.next.above) in
    on_read c.args.schedule.now start old now name run.reading given bytes c.args.first next (next - c.args.first) c.in-Ok.stop c.fill.new.reading size c.requires.few c.next_cut-next.ensures.next
    (fills_with old now run.reading c.fill.new.reading c.clear.new.self (next - c.args.first) (Ok c.in-Ok.stop) c.clear.ensures c.in-Ok.ensures.fills) some count read

pub returns-in-Ok-clause-near : goal.returns-in-Ok-clause-near
returns-in-Ok-clause-near g c =
    let old = g.H.Host.outside c.args.host.now in
    let now = g.H.Host.outside c.fill.new.host in
    let run = c.args.run.now in
    let next = c.next_cut-next.result in
    let size : (next - c.args.first) + c.args.first ≡ next = omega (arith, c.next_cut-next.ensures.next.above) in
    near_filled c.args.schedule.now old now run (cleared run.reading) c.args.first next (next - c.args.first) c.in-Ok.stop c.fill.new.reading size c.requires.few c.next_cut-next.ensures.next c.requires.near
    (fills_with old now run.reading c.fill.new.reading c.clear.new.self (next - c.args.first) (Ok c.in-Ok.stop) c.clear.ensures c.in-Ok.ensures.fills)

pub returns-in-Err-clause-reads : goal.returns-in-Err-clause-reads
returns-in-Err-clause-reads g c = λ start name bytes given read some count.
    let old = g.H.Host.outside c.args.host.now in
    let now = g.H.Host.outside c.fill.new.host in
    let run = c.args.run.now in
    let next = c.next_cut-next.result in
    on_unread start old now name run.reading given bytes (next - c.args.first) _ c.fill.new.reading (fills_with old now run.reading c.fill.new.reading c.clear.new.self (next - c.args.first) (Err _) c.clear.ensures c.in-Err.ensures.fills) some read
