use Rattle.std.proofs.Common.{None, Ok, subst}
use Rattle.vsw_reading.proofs.Steps.{StepsSo, open_stepped, room_stepped, outputs_then, all_fed, grown_then}
use Rattle.vsw_reading.proofs.reading.fill.Goals as goal

pub returns-in-Ok-Some-clause-fills : goal.returns-in-Ok-Some-clause-fills
returns-in-Ok-Some-clause-fills g c = λ start name given h.
    let now = g.H.Host.outside c.step.new.host in
    let r = c.loop.reading in
    subst (λ s. StepsSo (g.H.Host.outside c.loop.host) now r c.step.new.reading c.args.most (Ok s)) c.in-Ok-Some.field-0-is c.in-Ok-Some.ensures.steps start name given (c.loop.invariant.reads start name given h)

pub loop-preserved : goal.loop-preserved
loop-preserved g c =
    let old = g.H.Host.outside c.loop.host in
    let now = g.H.Host.outside c.step.new.host in
    let steps : StepsSo old now c.loop.reading c.step.new.reading c.args.most (Ok None) = subst (λ s. StepsSo old now c.loop.reading c.step.new.reading c.args.most (Ok s)) c.in-Ok-None.field-0-is c.in-Ok-None.ensures.steps in record {
      reads = λ start name given h. (steps start name given (c.loop.invariant.reads start name given h)).0;
      near = open_stepped old now c.loop.reading c.step.new.reading c.args.most steps c.loop.invariant.near;
      room = room_stepped old now c.loop.reading c.step.new.reading c.args.most steps c.loop.invariant.near;
      grown = grown_then c.args.reading.now.batch c.loop.reading.batch c.step.new.reading.batch c.loop.invariant.grown c.in-Ok-None.ensures.grown;
      outputs = outputs_then (g.H.Host.outside c.args.host.now) old now c.loop.invariant.outputs c.in-Ok-None.ensures.outputs;
    }

pub returns-clause-fills : goal.returns-clause-fills
returns-clause-fills g c = λ start name given h. all_fed start (g.H.Host.outside c.loop.host) name c.loop.reading given (c.loop.invariant.reads start name given h)
