use Rattle.std.proofs.Common.{false, refl}
use Rattle.vsw_reading.proofs.Open.{open_begun}
use Rattle.vsw_replay.proofs.Unput.{opened_quietly, outputs_then, unopened_fault, unopened_fault_outputs, unopened_memory, unopened_memory_outputs}
use Rattle.vsw_replay.specs.declared.trace.Run.{Run}
use Rattle.vsw_replay.proofs.quiet.run_quietly.Goals as goal

pub returns-in-Err-Fault : goal.returns-in-Err-Fault
returns-in-Err-Fault g c = record {
  runs = λ s e at. unopened_fault s (g.H.Host.outside c.args.host.now) (g.H.Host.outside c.open.new.host) c.args.name.now c.args.switch.now c.in-Err-Fault.field-0 c.in-Err-Fault.field-0-is c.in-Err-Fault.ensures;
  outputs = unopened_fault_outputs (g.H.Host.outside c.args.host.now) (g.H.Host.outside c.open.new.host) c.args.name.now c.in-Err-Fault.field-0 c.in-Err-Fault.field-0-is c.in-Err-Fault.ensures;
}

pub returns-in-Err-Memory : goal.returns-in-Err-Memory
returns-in-Err-Memory g c = record {
  runs = λ s e at. unopened_memory s (g.H.Host.outside c.args.host.now) (g.H.Host.outside c.open.new.host) c.args.name.now c.args.switch.now c.in-Err-Memory.field-0 c.in-Err-Memory.field-0-is c.in-Err-Memory.ensures;
  outputs = unopened_memory_outputs (g.H.Host.outside c.args.host.now) (g.H.Host.outside c.open.new.host) c.args.name.now c.in-Err-Memory.field-0 c.in-Err-Memory.field-0-is c.in-Err-Memory.ensures;
}

pub run_opened-requires-clause-near : goal.run_opened-requires-clause-near
run_opened-requires-clause-near g c =
    let old = g.H.Host.outside c.args.host.now in
    let now = g.H.Host.outside c.open.new.host in
    open_begun old now c.args.name.now c.begin_reading.result c.begin_reading.ensures.batch (c.begin_reading.ensures.read old now c.args.name.now c.in-Ok.ensures.1)

pub returns-in-Ok : goal.returns-in-Ok
returns-in-Ok g c =
    let old = g.H.Host.outside c.args.host.now in
    let now = g.H.Host.outside c.open.new.host in
    let name = c.args.name.now in
    let run : Run = record { reading = c.begin_reading.result; text = c.new.result; short = false } in
    record {
      runs = λ s e at. c.run_opened.ensures.runs s old name e (opened_quietly s old now name run c.args.switch.now c.in-Ok.source.file c.in-Ok.ensures.0 c.in-Ok.ensures.1 c.begin_reading.ensures.read c.begin_reading.ensures.batch refl at);
      outputs = outputs_then old now (g.H.Host.outside c.run_opened.new.host) c.in-Ok.ensures.0 c.run_opened.ensures.outputs;
    }
