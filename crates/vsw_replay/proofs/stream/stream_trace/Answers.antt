use Rattle.vsw_replay.proofs.Beginning.{unopened_fault}
use Rattle.vsw_reading.proofs.Open.{open_begun}
use Rattle.vsw_replay.proofs.stream.stream_trace.Goals as goal

pub returns-in-Err-Fault : goal.returns-in-Err-Fault
returns-in-Err-Fault g c = record { runs = λ s e at. unopened_fault s (g.H.Host.outside c.args.host.now) (g.H.Host.outside c.open.new.host) c.args.name.now c.in-Err-Fault.field-0 c.in-Err-Fault.field-0-is c.in-Err-Fault.ensures }

pub stream_opened-requires-clause-near : goal.stream_opened-requires-clause-near
stream_opened-requires-clause-near g c κs within =
    let old = g.H.Host.outside c.args.host.now in
    let now = g.H.Host.outside c.open.new.host in
    open_begun old now c.args.name.now c.begin_reading.result c.begin_reading.ensures.batch (c.begin_reading.ensures.read old now c.args.name.now c.in-Ok.ensures.1)
