use Rattle.std.proofs.Common.{subst}
use Rattle.vsw_replay.specs.Private.Going.{AfterPut}
use Rattle.vsw_replay.proofs.trace.run_stretch.Goals as goal

pub returns-in-Full-clause-goes : goal.returns-in-Full-clause-goes
returns-in-Full-clause-goes g c = λ s start name e f.
    let now = g.H.Host.outside c.put_stretch.new.host in
    let t = c.args.stretch in
    c.read_next.ensures.goes s start name c.put_stretch.new.runner e (subst (AfterPut s start now name c.put_stretch.new.run c.put_stretch.new.runner t) c.in-Full.is (c.in-Ok.ensures.puts s start name e f))

pub returns-in-End-clause-goes : goal.returns-in-End-clause-goes
returns-in-End-clause-goes g c = λ s start name e f.
    let now = g.H.Host.outside c.put_stretch.new.host in
    let t = c.args.stretch in
    c.run_past.ensures.runs s start name e (subst (AfterPut s start now name c.put_stretch.new.run c.put_stretch.new.runner t) c.in-End.is (c.in-Ok.ensures.puts s start name e f))

pub returns-in-Fault-clause-goes : goal.returns-in-Fault-clause-goes
returns-in-Fault-clause-goes g c = λ s start name e f. subst (AfterPut s start (g.H.Host.outside c.put_stretch.new.host) name c.put_stretch.new.run c.put_stretch.new.runner c.args.stretch) c.in-Fault.is (c.in-Ok.ensures.puts s start name e f)

pub returns-in-Bad-clause-goes : goal.returns-in-Bad-clause-goes
returns-in-Bad-clause-goes g c = λ s start name e f. subst (AfterPut s start (g.H.Host.outside c.put_stretch.new.host) name c.put_stretch.new.run c.put_stretch.new.runner c.args.stretch) c.in-Bad.is (c.in-Ok.ensures.puts s start name e f)
