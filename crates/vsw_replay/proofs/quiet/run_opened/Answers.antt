use Rattle.vsw_replay.proofs.Unput.{outputs_then}
use Rattle.vsw_replay.proofs.quiet.run_opened.Goals as goal

pub returns-in-Err : goal.returns-in-Err
returns-in-Err g c = record { runs = λ s start name e o. c.in-Err.ensures.goes s start name c.args.switch.now e o; outputs = c.begin.ensures.outputs }

pub returns-in-Ok : goal.returns-in-Ok
returns-in-Ok g c = record {
  runs = λ s start name e o. c.run_stretches.ensures.runs s start name e (c.in-Ok.ensures.goes s start name c.args.switch.now e o);
  outputs = outputs_then (g.H.Host.outside c.args.host.now) (g.H.Host.outside c.begin.new.host) (g.H.Host.outside c.run_stretches.new.host) c.begin.ensures.outputs c.run_stretches.ensures.outputs;
}
