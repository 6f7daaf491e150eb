use Rattle.vsw_replay.proofs.Unput.{outputs_then}
use Rattle.vsw_replay.proofs.quiet.run_stretches.Goals as goal

pub returns-in-Err : goal.returns-in-Err
returns-in-Err g c = record {
  runs = λ s start name e f. c.in-Err.ensures.goes s start name e (c.loop-next.invariant.filled s start name e f);
  outputs = outputs_then (g.H.Host.outside c.args.host.now) (g.H.Host.outside c.loop-next.host) (g.H.Host.outside c.run_stretch.new.host) c.loop-next.invariant.outputs c.in-Err.ensures.outputs;
}
