use Rattle.std.proofs.Common.{Ok, Err, ◌∙◌}
use Rattle.vsw_reading.specs.declared.reading.Stop.TheVariants.{Full}
use Rattle.vsw_reading.proofs.Open.{cleared, fills_with, open_cleared, open_with, peeks_with}
use Rattle.vsw_engine.proofs.Batches.{near_filled, near_none, next_filled, next_more, next_none, next_unfilled, room_for}
use Rattle.vsw_engine.proofs.run.read_next.Goals as goal

pub peek-requires : goal.peek-requires
peek-requires g c = record { near = open_with (g.H.Host.outside c.args.host.now) c.args.reading.now c.clear.new.self c.clear.ensures c.requires.near }

pub returns-in-Full-clause-goes : goal.returns-in-Full-clause-goes
returns-in-Full-clause-goes g c = λ ports start name b.
    let old = g.H.Host.outside c.args.host.now in
    let now = g.H.Host.outside c.peek.new.host in
    let r = c.args.reading.now in
    next_more ports start old now name c.args.first r c.peek.new.reading c.if-first-eq-RECORDS_MOST.true c.in-Full.ensures.reader c.in-Full.ensures.outputs (peeks_with old now r c.peek.new.reading c.clear.new.self Full c.clear.ensures c.in-Full.ensures.peeks) b

pub returns-in_default : goal.returns-in_default
returns-in_default g c =
    let old = g.H.Host.outside c.args.host.now in
    let now = g.H.Host.outside c.peek.new.host in
    let r = c.args.reading.now in
    let none = c.peek.ensures.batch ∙ c.clear.ensures in record {
      goes = λ ports start name b. next_none ports start old now name c.args.first c.peek.result r c.peek.new.reading c.if-first-eq-RECORDS_MOST.true c.peek.ensures.reader none c.in_default.not-Full c.peek.ensures.outputs (peeks_with old now r c.peek.new.reading c.clear.new.self c.peek.result c.clear.ensures c.peek.ensures.peeks) b;
      near = near_none now c.peek.new.reading c.args.first c.peek.result c.requires.whole c.if-first-eq-RECORDS_MOST.true none c.in_default.not-Full;
    }

pub fill-requires-clause-near : goal.fill-requires-clause-near
fill-requires-clause-near g c = open_with (g.H.Host.outside c.args.host.now) c.args.reading.now c.clear.new.self c.clear.ensures c.requires.near

pub returns-in-Ok-clause-goes : goal.returns-in-Ok-clause-goes
returns-in-Ok-clause-goes g c = λ ports start name b.
    let old = g.H.Host.outside c.args.host.now in
    let now = g.H.Host.outside c.fill.new.host in
    let r = c.args.reading.now in
    next_filled ports start old now name c.args.first c.in-Ok.stop r c.fill.new.reading (room_for c.args.first c.requires.whole.0 c.requires.whole.1 c.requires.few c.if-first-eq-RECORDS_MOST.false) c.fill.ensures.outputs (fills_with old now r c.fill.new.reading c.clear.new.self 64 (Ok c.in-Ok.stop) c.clear.ensures c.in-Ok.ensures.fills) b

pub returns-in-Ok-clause-near : goal.returns-in-Ok-clause-near
returns-in-Ok-clause-near g c =
    let old = g.H.Host.outside c.args.host.now in
    let now = g.H.Host.outside c.fill.new.host in
    let r = c.args.reading.now in
    near_filled old now (cleared r) c.fill.new.reading c.args.first c.in-Ok.stop c.requires.whole (room_for c.args.first c.requires.whole.0 c.requires.whole.1 c.requires.few c.if-first-eq-RECORDS_MOST.false) (open_cleared old r c.requires.near) (fills_with old now r c.fill.new.reading c.clear.new.self 64 (Ok c.in-Ok.stop) c.clear.ensures c.in-Ok.ensures.fills)

pub returns-in-Err-clause-goes : goal.returns-in-Err-clause-goes
returns-in-Err-clause-goes g c = λ ports start name b.
    let old = g.H.Host.outside c.args.host.now in
    let now = g.H.Host.outside c.fill.new.host in
    let r = c.args.reading.now in
    next_unfilled ports start old now name c.args.first _ r c.fill.new.reading c.fill.ensures.outputs (fills_with old now r c.fill.new.reading c.clear.new.self 64 (Err _) c.clear.ensures c.in-Err.ensures.fills) b
