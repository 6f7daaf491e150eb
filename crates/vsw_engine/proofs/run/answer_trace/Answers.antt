use Rattle.vsw_reading.proofs.Open.{open_begun}
use Rattle.vsw_engine.proofs.Beginning.{opened, unmade, unopened_fault, unopened_memory}
use Rattle.vsw_engine.proofs.run.answer_trace.Goals as goal

pub returns-in_default : goal.returns-in_default
returns-in_default g c = unmade c.args.rows.now (g.H.Host.outside c.args.host.now) c.args.name.now

pub run_opened-requires-clause-near : goal.run_opened-requires-clause-near
run_opened-requires-clause-near g c =
    let old = g.H.Host.outside c.args.host.now in
    let now = g.H.Host.outside c.open.new.host in
    open_begun old now c.args.name.now c.begin_reading-reading.result c.begin_reading-reading.ensures.batch (c.begin_reading-reading.ensures.read old now c.args.name.now c.in-Ok-open.ensures.1)

pub returns-in-Ok-open : goal.returns-in-Ok-open
returns-in-Ok-open g c =
    let old = g.H.Host.outside c.args.host.now in
    let now = g.H.Host.outside c.open.new.host in
    c.run_opened.ensures.answers old c.args.name.now (opened old now c.args.name.now c.begin_reading-reading.result c.in-Ok-open.ensures.0 c.begin_reading-reading.ensures.batch (c.begin_reading-reading.ensures.read old now c.args.name.now c.in-Ok-open.ensures.1))

pub returns-in-Err-Fault : goal.returns-in-Err-Fault
returns-in-Err-Fault g c = unopened_fault c.args.rows.now (g.H.Host.outside c.args.host.now) (g.H.Host.outside c.open.new.host) c.args.name.now c.in-Err-Fault.field-0 c.in-Err-Fault.field-0-is c.in-Err-Fault.ensures

pub returns : goal.returns
returns g c = unopened_memory c.args.rows.now (g.H.Host.outside c.args.host.now) (g.H.Host.outside c.open.new.host) c.args.name.now c.in-Err-Memory.field-0 c.in-Err-Memory.field-0-is c.in-Err-Memory.ensures
